-- Several files, written one after another.
use Rattle.std.proofs.Common.{◌≡◌, ℕ, ◌<◌, inl, inr, List, [], ◌++◌, length, take, drop, Option, Some, Ok, Err, IsTrue, refl, sym, ap, ◌∙◌, subst, arith, append_assoc}
use Rattle.std.specs.Prelude.{Result}
use Rattle.std.proofs.lemmas.List.{append-nil, take-append-drop}
use Rattle.fab_base.specs.Ending.{Write, end_by, Uses, IsPrefixOf}
use Rattle.fab_base.specs.Seen.{Seen, Rose, PutsAll, Touches, Nothing, Only}
use Rattle.fab_base.specs.declared.values.Failed.{Failed}
use Rattle.fab_base.proofs.EndingLemmas.{puts_all_uses, uses_then, uses_wider}
use Rattle.fab_base.proofs.SeenLemmas.{rose_later, touches_wider}
use Rattle.fab_base.specs.Slots.{name_of, NameIn}
use Rattle.run_files.specs.Outputs.{AreOutputs, FailsAt, PutsEach}
use Rattle.run_files.specs.Pages.{piece_at}
use Rattle.run_files.proofs.OutputLemmas.{stays_output, stays_named, same_name, outputs_stay, puts_each_uses}
use Rattle.fab_windows.specs.Files.{Hold, Written, AreFiles, Writes}
use Rattle.fab_windows.proofs.UsesLemmas.{writing_touches}

-- ---- the journal, and then the outputs

-- open files stay so
module _ (F G : List ℕ → Type 0) (a b : Seen) (k : Touches F G a b) where
  pub files_stay : (journal : ℕ) (outs : List ℕ) → AreFiles a journal outs → AreFiles b journal outs
  files_stay journal outs f = record {
    journal_ = stays_output F G a b k journal f.journal_;
    outs_ = outputs_stay F G a b k outs f.outs_;
    apart = λ q lt e. f.apart q lt (sym (same_name F G a b k outs f.outs_ q lt) ∙ e ∙ stays_named F G a b k journal f.journal_);
  }

moved : (d : Seen) {m n : List ℕ} {x : Option (List ℕ)} → m ≡ n → d.file m ≡ x → d.file n ≡ x
moved d {m} {n} {x} e h = subst (λ k. d.file k ≡ x) e h

-- a front of what continues is a front of the whole
continued : (front back part : List ℕ) (n : ℕ) (whole : List ℕ) → whole ≡ front ++ back → part ≡ take n back → IsPrefixOf (front ++ part) whole
continued front back part n whole is of = (drop n back, append_assoc front part (drop n back) ∙ ap (λ l. front ++ (l ++ drop n back)) of ∙ ap (λ l. front ++ l) (take-append-drop n back) ∙ sym is)

pub first_uses : (journal : ℕ) (outs lines : List ℕ) (a b : Seen) {r : Result (Unit {0}) Failed} → PutsAll journal lines a b r → Uses Nothing (Written a journal outs) (end_by (λ e. Write) r) a b
first_uses journal outs lines a b {r} puts = uses_wider Nothing (Only (a.name journal)) Nothing (Written a journal outs) (λ m x. x) (λ m e. inl e) (end_by (λ e. Write) r) a b (puts_all_uses a b journal lines r puts)

module _ (journal : ℕ) (outs lines : List ℕ) (pieces : List (List ℕ)) (a b : Seen) (f : AreFiles a journal outs) where
  abbrev F : List ℕ → Type 0
  F = Written a journal outs

  module _ {r : Result (Unit {0}) Failed} (puts : PutsAll journal lines a b r) where
    -- the outputs are as they were
    outs_same : (q : ℕ) → q < length outs → b.file (name_of a outs q) ≡ a.file (name_of a outs q)
    outs_same q lt = puts.keeps.files (name_of a outs q) (f.apart q lt)

  pub first_failed : (e : Failed) → PutsAll {T = Unit {0}} {E = Failed} journal lines a b (Err e) → Writes journal outs lines pieces a b (Err e)
  first_failed e puts =
      let u = first_uses journal outs lines a b puts in
      let k = writing_touches F a b u in
      record {
        uses = u;
        files = files_stay F F a b k journal outs f;
        whole = λ told l l' r r' w is more. tt;
        front = λ told l l' r r' w is more.
            let part = puts.part told l w.lines_ in
            record {
              lines_ = (
                l ++ take part.0 lines,
                moved b (sym (stays_named F F a b k journal f.journal_)) part.1,
                continued l lines (take part.0 lines) part.0 l' is refl,
              );
              records = λ q lt. (
                r q,
                moved b (sym (same_name F F a b k outs f.outs_ q lt)) (outs_same puts q lt ∙ w.records q lt),
                (piece_at pieces q, sym (more q lt)),
              );
              order = inl (record {
                lines_ = (l ++ take part.0 lines, moved b (sym (stays_named F F a b k journal f.journal_)) part.1, (take part.0 lines, refl));
                records = λ q lt. moved b (sym (same_name F F a b k outs f.outs_ q lt)) (outs_same puts q lt ∙ w.records q lt);
              });
            };
        cause = inl (record { rose = puts.cause; records = outs_same puts });
      }

  module _ (d : Seen) (puts : PutsAll {T = Unit {0}} {E = Failed} journal lines a b (Ok tt)) where
    abbrev k : Touches F F a b
    k = writing_touches F a b (first_uses journal outs lines a b puts)

    told_b : IsTrue a.told → IsTrue b.told
    told_b told = subst IsTrue (sym k.told) told

    outs_b : AreOutputs b outs
    outs_b = outputs_stay F F a b k outs f.outs_

    name_b : (q : ℕ) → q < length outs → name_of b outs q ≡ name_of a outs q
    name_b q lt = same_name F F a b k outs f.outs_ q lt

    in_f : (m : List ℕ) → NameIn b outs m → F m
    in_f m h = inr (h.0, h.1, h.2 ∙ name_b h.0 h.1)

    had_b : (l : List ℕ) (r : ℕ → List ℕ) → Hold a journal outs l r → (q : ℕ) → q < length outs → b.file (name_of b outs q) ≡ Some (r q)
    had_b l r w q lt = moved b (sym (name_b q lt)) (outs_same puts q lt ∙ w.records q lt)

    module _ {z : Result (Unit {0}) Failed} (each : PutsEach outs pieces b d z) where
      second : Touches F F b d
      second = touches_wider (NameIn b outs) (NameIn b outs) F F b d in_f in_f each.touches

      uses_both : Uses Nothing F (end_by (λ e. Write) z) a d
      uses_both =
          uses_then Nothing F (end_by (λ e. Write) z) a b d (first_uses journal outs lines a b puts)
          (uses_wider Nothing (NameIn b outs) Nothing F (λ m x. x) in_f (end_by (λ e. Write) z) b d (puts_each_uses outs pieces b d z each))

      both : Touches F F a d
      both = writing_touches F a d uses_both

      name_d : (q : ℕ) → q < length outs → name_of d outs q ≡ name_of b outs q
      name_d q lt = same_name F F b d second outs outs_b q lt

      journal_d : d.name journal ≡ a.name journal
      journal_d = stays_named F F a d both journal f.journal_

      journal_kept : d.file (a.name journal) ≡ b.file (a.name journal)
      journal_kept = each.touches.files (a.name journal) (λ h. f.apart h.0 h.1 (sym (h.2 ∙ name_b h.0 h.1)))

      lines_d : IsTrue a.told → (l l' : List ℕ) (r : ℕ → List ℕ) → Hold a journal outs l r → l' ≡ l ++ lines → d.file (d.name journal) ≡ Some l'
      lines_d told l l' r w is = moved d (sym journal_d) (journal_kept ∙ puts.grown told l w.lines_ ∙ ap Some (sym is))

      records_d : IsTrue a.told → (l : List ℕ) (r r' : ℕ → List ℕ) → Hold a journal outs l r → ((q : ℕ) → q < length outs → r' q ≡ r q ++ piece_at pieces q) → (q : ℕ) → q < length outs → (bytes : List ℕ) × (d.file (name_of d outs q) ≡ Some bytes) × IsPrefixOf bytes (r' q)
      records_d told l r r' w more q lt =
          let part = each.part (told_b told) q lt (r q) (had_b l r w q lt) in (
            r q ++ take part.0 (piece_at pieces q),
            moved d (sym (name_d q lt)) part.1,
            continued (r q) (piece_at pieces q) (take part.0 (piece_at pieces q)) part.0 (r' q) (more q lt) refl,
          )

    rose_d : (q : ℕ) → q < length outs → Rose (b.write_faults (name_of b outs q)) (d.write_faults (name_of b outs q)) → Rose (a.write_faults (name_of a outs q)) (d.write_faults (name_of a outs q))
    rose_d q lt rose = rose_later _ _ _ (k.writes_rise (name_of a outs q)) (subst (λ n. Rose (b.write_faults n) (d.write_faults n)) (name_b q lt) rose)

    fails_d : (q : ℕ) → FailsAt q outs pieces b d → FailsAt q outs pieces a d
    fails_d q f =
        let lt = f.within in
        record {
          within = lt;
          rose = rose_d q lt f.rose;
          before = λ told p less bytes had.
              let e = name_b p (omega (arith, less, lt)) in
              moved d e (f.before (told_b told) p less bytes (moved b (sym e) (outs_same puts p (omega (arith, less, lt)) ∙ had)));
          behind = λ p more less. ap d.file (sym (name_b p less)) ∙ f.behind p more less ∙ ap b.file (name_b p less) ∙ outs_same puts p less;
        }

    pub second_done : PutsEach outs pieces b d (Ok tt) → Writes journal outs lines pieces a d (Ok tt)
    second_done each = record {
      uses = uses_both each;
      files = files_stay F F a d (both each) journal outs f;
      whole = λ told l l' r r' w is more. record {
        lines_ = lines_d each told l l' r w is;
        records = λ q lt. moved d (sym (name_d each q lt)) (each.all (told_b told) q lt (r q) (had_b l r w q lt) ∙ ap Some (sym (more q lt)));
      };
      front = λ told l l' r r' w is more. record {
        lines_ = (l', lines_d each told l l' r w is, ([], append-nil l'));
        records = records_d each told l r r' w more;
        order = inr (record {
          lines_ = lines_d each told l l' r w is;
          port = length outs;
          whole = λ q less lt. moved d (sym (name_d each q lt)) (each.all (told_b told) q lt (r q) (had_b l r w q lt) ∙ ap Some (sym (more q lt)));
          part = λ lt. absurd (omega arith);
          behind = λ q above lt. absurd (omega arith);
        });
      };
      cause = tt;
    }

    pub second_failed : (e : Failed) → PutsEach outs pieces b d (Err e) → Writes journal outs lines pieces a d (Err e)
    second_failed e each = record {
      uses = uses_both each;
      files = files_stay F F a d (both each) journal outs f;
      whole = λ told l l' r r' w is more. tt;
      front = λ told l l' r r' w is more.
          let at = fails_d each.cause.0 each.cause.1 in
          let now = λ (q : ℕ) (lt : q < length outs). sym (name_d each q lt ∙ name_b q lt) in
          record {
            lines_ = (l', lines_d each told l l' r w is, ([], append-nil l'));
            records = records_d each told l r r' w more;
            order = inr (record {
              lines_ = lines_d each told l l' r w is;
              port = each.cause.0;
              whole = λ q less lt. moved d (now q lt) (at.before told q less (r q) (w.records q lt) ∙ ap Some (sym (more q lt)));
              part = λ lt.
                  let part = each.part (told_b told) each.cause.0 lt (r each.cause.0) (had_b l r w each.cause.0 lt) in
                  (r each.cause.0 ++ take part.0 (piece_at pieces each.cause.0), moved d (sym (name_d each each.cause.0 lt)) part.1, (take part.0 (piece_at pieces each.cause.0), refl));
              behind = λ q above lt. moved d (now q lt) (at.behind q above lt ∙ w.records q lt);
            });
          };
      cause = inr (record { lines_ = λ told l had. journal_kept each ∙ puts.grown told l had; port = each.cause.0; fails = fails_d each.cause.0 each.cause.1 });
    }
