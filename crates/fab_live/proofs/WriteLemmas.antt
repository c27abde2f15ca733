-- A packet's record is written, and then journal and outputs.
use Rattle.std.proofs.Common.{◌≡◌, ◌≢◌, ℕ, ◌<◌, ◌⊎◌, inl, inr, List, [], ◌++◌, length, take, drop, Option, Some, Ok, Err, IsTrue, refl, sym, ap, ◌∙◌, subst, arith, append_assoc}
use Rattle.std.specs.Prelude.{Result}
use Rattle.std.specs.Result.{IsErrAnd}
use Rattle.std.proofs.lemmas.Bool.{cases_order}
use Rattle.std.proofs.lemmas.List.{append-nil, take-append-drop}
use Rattle.fab_base.specs.Ending.{Write, end_by, Uses}
use Rattle.fab_base.specs.Seen.{Seen, PutsAll, Touches, Nothing, Only}
use Rattle.fab_base.specs.declared.values.Failed.{Failed}
use Rattle.fab_base.proofs.EndingLemmas.{puts_all_uses, uses_none, uses_refused, uses_then, uses_wider}
use Rattle.fab_base.specs.Slots.{name_of, slot_at, NameIn}
use Rattle.run_files.specs.Pages.{piece_at}
use Rattle.run_files.proofs.OutputLemmas.{stays_named, same_name, outputs_stay}
use Rattle.fab_windows.specs.Files.{Written, Hold, Pending, Writes}
use Rattle.fab_windows.proofs.FileLemmas.{files_stay}
use Rattle.fab_windows.proofs.UsesLemmas.{writing_touches}
use Rattle.fab_windows.proofs.ResultLemmas.{err_is}
use Rattle.fab_live.specs.declared.fault.LiveFault.{LiveFault}
use Rattle.fab_live.specs.declared.fault.LiveFault.TheVariants as fault
use Rattle.fab_live.specs.Files.{LiveSlots, LiveNames, AreLive, Came, CameSome, GrowsAt, live_end, WritesPacket}

pub moved : (d : Seen) {m n : List ℕ} {x : Option (List ℕ)} → m ≡ n → d.file m ≡ x → d.file n ≡ x
moved d {m} {n} {x} e h = subst (λ k. d.file k ≡ x) e h

equal_or_not : (q p : ℕ) → (q ≡ p) ⊎ (q ≢ p)
equal_or_not q p = elim (cases_order q p) [
  | inl e ↦ inl e
  | inr other ↦ elim other [ inl less ↦ inr (λ e. absurd (omega arith)) | inr more ↦ inr (λ e. absurd (omega arith)) ]
]

-- a fault that is handed on
pub uses_on : {T : Type 0} (names : List ℕ → Type 0) (a b : Seen) (r : Result T LiveFault) (e : LiveFault) → IsErrAnd r (λ x. x ≡ e) → Uses Nothing names (live_end e) a b → Uses Nothing names (end_by live_end r) a b
uses_on names a b r e is u = subst (λ y. Uses Nothing names (end_by live_end y) a b) (err_is r e is) u

-- memory was refused before anything was written
pub uses_no_more : {T : Type 0} (names : List ℕ → Type 0) (a : Seen) (r : Result T LiveFault) → IsErrAnd r (λ x. x ≡ fault.Memory) → Uses Nothing names (end_by live_end r) a a
uses_no_more names a r is = uses_on names a a r fault.Memory is (uses_refused Nothing names a a (uses_none Nothing names a))

-- files of a forwarder that runs stay so
module _ (f : LiveSlots) (F G : List ℕ → Type 0) (a b : Seen) (g : AreLive a f) (k : Touches F G a b) where
  pub in_before : (m : List ℕ) → NameIn b f.ins m → NameIn a f.ins m
  in_before m n = (n.0, n.1, n.2 ∙ same_name F G a b k f.ins g.ins_ n.0 n.1)

  pub written_before : (m : List ℕ) → Written b f.journal f.outs m → Written a f.journal f.outs m
  written_before m (inl e) = inl (e ∙ stays_named F G a b k f.journal g.files.journal_)
  written_before m (inr n) = inr (n.0, n.1, n.2 ∙ same_name F G a b k f.outs g.files.outs_ n.0 n.1)

  pub live_stays : AreLive b f
  live_stays = record {
    files = files_stay F G a b k f.journal f.outs g.files;
    ins_ = outputs_stay F G a b k f.ins g.ins_;
    apart = λ m n w. g.apart m (in_before m n) (written_before m w);
  }

module _ (f : LiveSlots) (place : ℕ) (within : place < length f.ins) (piece : List ℕ) (a b : Seen) (g : AreLive a f) where
  abbrev F : List ℕ → Type 0
  F = LiveNames a f

  abbrev slot : ℕ
  slot = slot_at f.ins place

  -- ---- the record

  module _ {r : Result (Unit {0}) Failed} (puts : PutsAll slot piece a b r) where
    first_uses : Uses Nothing F (end_by (λ e. Write) r) a b
    first_uses = uses_wider Nothing (Only (a.name slot)) Nothing F (λ m x. x) (λ m e. inl (place, within, e)) (end_by (λ e. Write) r) a b (puts_all_uses a b slot piece r puts)

    first : Touches F F a b
    first = writing_touches F a b first_uses

    pub live_b : AreLive b f
    live_b = live_stays f F F a b g first

    in_b : (q : ℕ) → q < length f.ins → name_of b f.ins q ≡ name_of a f.ins q
    in_b q lt = same_name F F a b first f.ins g.ins_ q lt

    hold_b : (l : List ℕ) (v : ℕ → List ℕ) → Hold a f.journal f.outs l v → Hold b f.journal f.outs l v
    hold_b l v h = record {
      lines_ = moved b (sym (stays_named F F a b first f.journal g.files.journal_)) (puts.keeps.files (a.name f.journal) (λ e. g.apart (a.name f.journal) (place, within, e) (inl refl)) ∙ h.lines_);
      records = λ q lt. moved b (sym (same_name F F a b first f.outs g.files.outs_ q lt)) (puts.keeps.files (name_of a f.outs q) (λ e. g.apart (name_of a f.outs q) (place, within, e) (inr (q, lt, refl))) ∙ h.records q lt);
    }

    elsewhere : (q : ℕ) → q < length f.ins → q ≢ place → b.file (name_of b f.ins q) ≡ a.file (name_of a f.ins q)
    elsewhere q lt ne = ap b.file (in_b q lt) ∙ puts.keeps.files (name_of a f.ins q) (λ e. ne (g.ins_.differ q place lt within e))

    came_some : IsTrue a.told → (v v' : ℕ → List ℕ) → Came a f.ins v → GrowsAt place piece v v' → CameSome b f.ins v'
    came_some told v v' came grows q lt = elim (equal_or_not q place) [
      | inl e ↦
          let part = puts.part told (v place) (came place within) in (
            v place ++ take part.0 piece,
            moved b (sym (in_b place within) ∙ ap (name_of b f.ins) (sym e)) part.1,
            (drop part.0 piece, append_assoc (v place) (take part.0 piece) (drop part.0 piece) ∙ ap (λ l. v place ++ l) (take-append-drop part.0 piece) ∙ sym grows.here ∙ ap v' (sym e)),
          )
      | inr ne ↦ (v q, elsewhere q lt ne ∙ came q lt, ([], append-nil (v q) ∙ sym (grows.others q ne)))
    ]

  came_all : (puts : PutsAll {T = Unit {0}} {E = Failed} slot piece a b (Ok tt)) → IsTrue a.told → (v v' : ℕ → List ℕ) → Came a f.ins v → GrowsAt place piece v v' → Came b f.ins v'
  came_all puts told v v' came grows q lt = elim (equal_or_not q place) [
    | inl e ↦ moved b (sym (in_b puts place within) ∙ ap (name_of b f.ins) (sym e)) (puts.grown told (v place) (came place within) ∙ ap Some (sym grows.here ∙ ap v' (sym e)))
    | inr ne ↦ elsewhere puts q lt ne ∙ came q lt ∙ ap Some (sym (grows.others q ne))
  ]

  -- ---- where it fails

  pub record_failed : (p : Pending) (e : Failed) → PutsAll {T = Unit {0}} {E = Failed} slot piece a b (Err e) → WritesPacket f place piece p a b (Err fault.Write)
  record_failed p e puts = record {
    uses = first_uses puts;
    files = live_b puts;
    whole = λ told l l' r r' v v' h came is more grows. tt;
    front = λ told l l' r r' v v' h came is more grows.
        let now = hold_b puts l r h in (
          record {
            lines_ = (l, now.lines_, (p.lines, sym is));
            records = λ q lt. (r q, now.records q lt, (piece_at p.pieces q, sym (more q lt)));
            order = inl (record { lines_ = (l, now.lines_, ([], append-nil l)); records = now.records });
          },
          came_some puts told v v' came grows,
          inr (hold_b puts l r h),
        );
  }

  -- ---- journal and outputs behind it

  module _ (p : Pending) (d : Seen) (puts : PutsAll {T = Unit {0}} {E = Failed} slot piece a b (Ok tt)) where
    module _ {z : Result (Unit {0}) Failed} (w : Writes f.journal f.outs p.lines p.pieces b d z) where
      second_uses : Uses Nothing F (end_by (λ e. Write) z) b d
      second_uses = uses_wider Nothing (Written b f.journal f.outs) Nothing F (λ m x. x) (λ m x. inr (written_before f F F a b g (first puts) m x)) (end_by (λ e. Write) z) b d w.uses

      second : Touches F F b d
      second = writing_touches F b d second_uses

      uses_both : Uses Nothing F (end_by (λ e. Write) z) a d
      uses_both = uses_then Nothing F (end_by (λ e. Write) z) a b d (first_uses puts) second_uses

      both : Touches F F a d
      both = writing_touches F a d uses_both

      live_d : AreLive d f
      live_d = live_stays f F F a d g both

      in_d : (q : ℕ) → q < length f.ins → name_of d f.ins q ≡ name_of b f.ins q
      in_d q lt = same_name F F b d second f.ins (live_b puts).ins_ q lt

      came_d : (v : ℕ → List ℕ) → Came b f.ins v → Came d f.ins v
      came_d v came q lt =
          moved d (sym (in_d q lt)) (w.uses.touches.files (name_of b f.ins q) (λ x. (live_b puts).apart (name_of b f.ins q) (q, lt, refl) x) ∙ came q lt)

      told_b : IsTrue a.told → IsTrue b.told
      told_b told = subst IsTrue (sym (first puts).told) told

      some_of : (v : ℕ → List ℕ) → Came d f.ins v → CameSome d f.ins v
      some_of v came q lt = (v q, came q lt, ([], append-nil (v q)))

    pub packet_written : Writes f.journal f.outs p.lines p.pieces b d (Ok tt) → WritesPacket f place piece p a d (Ok tt)
    packet_written w = record {
      uses = uses_both w;
      files = live_d w;
      whole = λ told l l' r r' v v' h came is more grows. (w.whole (told_b w told) l l' r r' (hold_b puts l r h) is more, came_d w v' (came_all puts told v v' came grows));
      front = λ told l l' r r' v v' h came is more grows. (w.front (told_b w told) l l' r r' (hold_b puts l r h) is more, some_of w v' (came_d w v' (came_all puts told v v' came grows)), inl (came_d w v' (came_all puts told v v' came grows)));
    }

    pub packet_failed : (e : Failed) → Writes f.journal f.outs p.lines p.pieces b d (Err e) → WritesPacket f place piece p a d (Err fault.Write)
    packet_failed e w = record {
      uses = uses_both w;
      files = live_d w;
      whole = λ told l l' r r' v v' h came is more grows. tt;
      front = λ told l l' r r' v v' h came is more grows. (w.front (told_b w told) l l' r r' (hold_b puts l r h) is more, some_of w v' (came_d w v' (came_all puts told v v' came grows)), inl (came_d w v' (came_all puts told v v' came grows)));
    }
