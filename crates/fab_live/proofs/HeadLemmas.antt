-- The heads of all files are written.
use Rattle.std.proofs.Common.{◌≡◌, ℕ, zero, suc, ◌+◌, ◌<◌, inl, inr, List, [], ◌++◌, length, take, drop, Some, None, IsTrue, Ok, Err, refl, sym, ap, ◌∙◌, subst, arith}
use Rattle.std.specs.Prelude.{Result, replicate}
use Rattle.std.proofs.lemmas.List.{append-nil, take-append-drop}
use Rattle.fab_base.specs.Ending.{Write, end_by, Uses}
use Rattle.fab_base.specs.Seen.{Seen, Touches, Nothing}
use Rattle.fab_base.specs.declared.values.Failed.{Failed}
use Rattle.fab_base.proofs.EndingLemmas.{uses_none, uses_refused, uses_then, uses_wider}
use Rattle.fab_config.specs.Settings.{Settings}
use Rattle.pcap_file.specs.Capture.{head_bytes}
use Rattle.fab_policy.specs.Text.{text, head_line}
use Rattle.fab_policy.proofs.GrowLemmas.{nothing_is_written}
use Rattle.fab_base.specs.Slots.{name_of, NameIn}
use Rattle.run_files.specs.Outputs.{PutsEach}
use Rattle.run_files.specs.Pages.{piece_at}
use Rattle.run_files.proofs.OutputLemmas.{stays_named, same_name, puts_each_uses}
use Rattle.fab_windows.specs.Files.{Written, Hold, Pending, Writes, captures}
use Rattle.fab_windows.specs.Turns.{Laws}
use Rattle.fab_windows.proofs.UsesLemmas.{writing_touches}
use Rattle.fab_live.specs.declared.fault.LiveFault.{LiveFault}
use Rattle.fab_live.specs.declared.fault.LiveFault.TheVariants as fault
use Rattle.fab_live.specs.Files.{LiveSlots, LiveNames, AreLive, Came, CameSome}
use Rattle.fab_live.specs.Live.{LeftBroken, HoldLive, StartsFiles}
use Rattle.fab_live.proofs.BeginLemmas.{live_nothing}
use Rattle.fab_live.proofs.WriteLemmas.{moved, live_stays, written_before}

module _ (laws : Laws) (c : Settings) (f : LiveSlots) (a : Seen) (g : AreLive a f) (hold : IsTrue a.told → Hold a f.journal f.outs [] (λ q. [])) (came : IsTrue a.told → Came a f.ins (λ q. [])) where
  abbrev F : List ℕ → Type 0
  F = LiveNames a f

  abbrev n : ℕ
  n = length f.outs

  -- nothing was written
  pub nothing_yet : LeftBroken c a f []
  nothing_yet = record {
    entry_list = [];
    run = live_nothing laws c n;
    hold = λ told. record {
      fronts = record {
        before = None;
        begins = tt;
        hold = record {
          lines_ = ([], (hold told).lines_, (text [], refl));
          records = λ q lt. ([], (hold told).records q lt, (captures c n [] q, refl));
          order = inl (record { lines_ = ([], (hold told).lines_, ([], refl)); records = (hold told).records });
        };
      };
      came = λ q lt. ([], came told q lt, (head_bytes ++ [], refl));
      order = inr (hold told);
    };
  }

  module _ (pieces : List (List ℕ)) (heads : (q : ℕ) → q < length f.ins → piece_at pieces q ≡ head_bytes) (b : Seen) where
    module _ {r : Result (Unit {0}) Failed} (each : PutsEach f.ins pieces a b r) where
      pub heads_use : Uses Nothing F (end_by (λ e. Write) r) a b
      heads_use = uses_wider Nothing (NameIn a f.ins) Nothing F (λ m x. x) (λ m x. inl x) (end_by (λ e. Write) r) a b (puts_each_uses f.ins pieces a b r each)

      first : Touches F F a b
      first = writing_touches F a b heads_use

      pub live_b : AreLive b f
      live_b = live_stays f F F a b g first

      in_b : (q : ℕ) → q < length f.ins → name_of b f.ins q ≡ name_of a f.ins q
      in_b q lt = same_name F F a b first f.ins g.ins_ q lt

      hold_b : IsTrue a.told → Hold b f.journal f.outs [] (λ q. [])
      hold_b told = record {
        lines_ = moved b (sym (stays_named F F a b first f.journal g.files.journal_)) (each.touches.files (a.name f.journal) (λ x. g.apart (a.name f.journal) x (inl refl)) ∙ (hold told).lines_);
        records = λ q lt. moved b (sym (same_name F F a b first f.outs g.files.outs_ q lt)) (each.touches.files (name_of a f.outs q) (λ x. g.apart (name_of a f.outs q) x (inr (q, lt, refl))) ∙ (hold told).records q lt);
      }

      told_a : IsTrue b.told → IsTrue a.told
      told_a told = subst IsTrue first.told told

      some_b : IsTrue a.told → CameSome b f.ins (λ q. head_bytes ++ [])
      some_b told q lt =
          let part = each.part told q lt [] (came told q lt) in (
            take part.0 (piece_at pieces q),
            moved b (sym (in_b q lt)) part.1,
            (drop part.0 (piece_at pieces q), take-append-drop part.0 (piece_at pieces q) ∙ heads q lt ∙ sym (append-nil head_bytes)),
          )

    -- heads of what came couldn't be written
    pub heads_failed : (e : Failed) → PutsEach f.ins pieces a b (Err e) → LeftBroken c b f []
    heads_failed e each = record {
      entry_list = [];
      run = live_nothing laws c n;
      hold = λ told.
          let h = hold_b each (told_a each told) in
          record {
            fronts = record {
              before = None;
              begins = tt;
              hold = record {
                lines_ = ([], h.lines_, (text [], refl));
                records = λ q lt. ([], h.records q lt, (captures c n [] q, refl));
                order = inl (record { lines_ = ([], h.lines_, ([], refl)); records = h.records });
              };
            };
            came = some_b each (told_a each told);
            order = inr h;
          };
    }

    module _ (each : PutsEach f.ins pieces a b (Ok tt)) (p : Pending) (p_lines : p.lines ≡ head_line) (p_pieces : (q : ℕ) → q < n → piece_at p.pieces q ≡ head_bytes) (d : Seen) where
      came_b : IsTrue a.told → Came b f.ins (λ q. head_bytes ++ [])
      came_b told q lt = moved b (sym (in_b each q lt)) (each.all told q lt [] (came told q lt) ∙ ap Some (heads q lt ∙ sym (append-nil head_bytes)))

      text_is : text [] ≡ [] ++ p.lines
      text_is = nothing_is_written.0 ∙ sym p_lines

      captures_are : (q : ℕ) → q < n → captures c n [] q ≡ [] ++ piece_at p.pieces q
      captures_are q lt = nothing_is_written.1 c n (q + 1) ∙ sym (p_pieces q lt)

      module _ {z : Result (Unit {0}) Failed} (w : Writes f.journal f.outs p.lines p.pieces b d z) where
        second_uses : Uses Nothing F (end_by (λ e. Write) z) b d
        second_uses = uses_wider Nothing (Written b f.journal f.outs) Nothing F (λ m x. x) (λ m x. inr (written_before f F F a b g (first each) m x)) (end_by (λ e. Write) z) b d w.uses

        second : Touches F F b d
        second = writing_touches F b d second_uses

        pub all_use : Uses Nothing F (end_by (λ e. Write) z) a d
        all_use = uses_then Nothing F (end_by (λ e. Write) z) a b d (heads_use each) second_uses

        all_touch : Touches F F a d
        all_touch = writing_touches F a d all_use

        pub live_d : AreLive d f
        live_d = live_stays f F F a d g all_touch

        came_d : IsTrue a.told → Came d f.ins (λ q. head_bytes ++ [])
        came_d told q lt =
            moved d (sym (same_name F F b d second f.ins (live_b each).ins_ q lt)) (w.uses.touches.files (name_of b f.ins q) (λ x. (live_b each).apart (name_of b f.ins q) (q, lt, refl) x) ∙ came_b told q lt)

      told_from : {z : Result (Unit {0}) Failed} → Writes f.journal f.outs p.lines p.pieces b d z → IsTrue d.told → IsTrue a.told
      told_from w told = subst IsTrue (all_touch w).told told

      pub files_failed : (e : Failed) → Writes f.journal f.outs p.lines p.pieces b d (Err e) → LeftBroken c d f []
      files_failed e w = record {
        entry_list = [];
        run = live_nothing laws c n;
        hold = λ told.
            let told_a' = told_from w told in
            record {
              fronts = record {
                before = None;
                begins = tt;
                hold = w.front (subst IsTrue (sym (first each).told) told_a') [] (text []) (λ q. []) (captures c n []) (hold_b each told_a') text_is captures_are;
              };
              came = λ q lt. (head_bytes ++ [], came_d w told_a' q lt, ([], append-nil (head_bytes ++ [])));
              order = inl (came_d w told_a');
            };
      }

      pub files_written : Writes f.journal f.outs p.lines p.pieces b d (Ok tt) → IsTrue d.told → HoldLive c d f [] []
      files_written w told =
          let told_a' = told_from w told in
          record {
            wholes = w.whole (subst IsTrue (sym (first each).told) told_a') [] (text []) (λ q. []) (captures c n []) (hold_b each told_a') text_is captures_are;
            came = came_d w told_a';
          }

-- ---- the heads, as a step

pieces_from : (n : ℕ) (pieces : List (List ℕ)) → pieces ≡ replicate n head_bytes → (q : ℕ) → q < n → piece_at pieces q ≡ head_bytes
pieces_from n pieces is q lt = ap (λ (l : List (List ℕ)). piece_at l q) is ∙ go n q lt
  where
    go : (n q : ℕ) → q < n → piece_at (replicate n head_bytes) q ≡ head_bytes
    go zero q lt = absurd (omega (arith, lt))
    go (suc n) zero lt = refl
    go (suc n) (suc q) lt = go n q (omega (arith, lt))

module _ (laws : Laws) (f : LiveSlots) (a : Seen) (g : AreLive a f) (empty : IsTrue a.told → Hold a f.journal f.outs [] (λ q. []) × Came a f.ins (λ q. [])) where
  hold_ : IsTrue a.told → Hold a f.journal f.outs [] (λ q. [])
  hold_ told = (empty told).0

  came_ : IsTrue a.told → Came a f.ins (λ q. [])
  came_ told = (empty told).1

  -- memory was refused
  pub starts_none : {T : Type 0} → StartsFiles {T = T} f a a (Err fault.Memory)
  starts_none = record {
    uses = uses_refused Nothing (LiveNames a f) a a (uses_none Nothing (LiveNames a f) a);
    files = g;
    whole = λ c. tt;
    broken = λ c. (tt, nothing_yet laws c f a g hold_ came_);
  }

  module _ (pieces : List (List ℕ)) (is : pieces ≡ replicate (length f.ins) head_bytes) (b : Seen) where
    heads_ : (q : ℕ) → q < length f.ins → piece_at pieces q ≡ head_bytes
    heads_ = pieces_from (length f.ins) pieces is

    pub live_between : {r : Result (Unit {0}) Failed} → PutsEach f.ins pieces a b r → (c : Settings) → AreLive b f
    live_between each c = live_b laws c f a g hold_ came_ pieces heads_ b each

    pub starts_failed : (e : Failed) (c : Settings) → PutsEach f.ins pieces a b (Err e) → StartsFiles {T = Unit {0}} f a b (Err fault.Write)
    starts_failed e c each = record {
      uses = heads_use laws c f a g hold_ came_ pieces heads_ b each;
      files = live_between each c;
      whole = λ c. tt;
      broken = λ c. (tt, heads_failed laws c f a g hold_ came_ pieces heads_ b e each);
    }

    module _ (c : Settings) (each : PutsEach f.ins pieces a b (Ok tt)) (p : Pending) (p_lines : p.lines ≡ head_line) (p_pieces : (q : ℕ) → q < length f.outs → piece_at p.pieces q ≡ head_bytes) (d : Seen) where
      pub starts_broken : (e : Failed) → Writes f.journal f.outs p.lines p.pieces b d (Err e) → StartsFiles {T = Unit {0}} f a d (Err fault.Write)
      starts_broken e w = record {
        uses = all_use laws c f a g hold_ came_ pieces heads_ b each p p_lines p_pieces d w;
        files = live_d laws c f a g hold_ came_ pieces heads_ b each p p_lines p_pieces d w;
        whole = λ c. tt;
        broken = λ c. (tt, files_failed laws c f a g hold_ came_ pieces heads_ b each p p_lines p_pieces d e w);
      }

      pub starts_whole : Writes f.journal f.outs p.lines p.pieces b d (Ok tt) → StartsFiles {T = Unit {0}} f a d (Ok tt)
      starts_whole w = record {
        uses = all_use laws c f a g hold_ came_ pieces heads_ b each p p_lines p_pieces d w;
        files = live_d laws c f a g hold_ came_ pieces heads_ b each p p_lines p_pieces d w;
        whole = λ c. files_written laws c f a g hold_ came_ pieces heads_ b each p p_lines p_pieces d w;
        broken = λ c. tt;
      }

-- the same of another kind of answer
pub starts_ok : {T U : Type 0} (f : LiveSlots) (a b : Seen) (t : T) (u : U) → StartsFiles {T = T} f a b (Ok t) → StartsFiles {T = U} f a b (Ok u)
starts_ok f a b t u s = record {
  uses = s.uses;
  files = s.files;
  whole = s.whole;
  broken = λ c. tt;
}

pub starts_err : {T U : Type 0} (f : LiveSlots) (a b : Seen) (e : LiveFault) → StartsFiles {T = T} f a b (Err e) → StartsFiles {T = U} f a b (Err e)
starts_err {T} {U} f a b e s = record {
  uses = s.uses;
  files = s.files;
  whole = λ c. tt;
  broken = s.broken;
}
