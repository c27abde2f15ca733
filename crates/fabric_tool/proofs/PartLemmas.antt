-- Runs over a part of the records, and files that hold a front of what they are to hold.
use Rattle.std.proofs.Common.{◌≡◌, ℕ, zero, suc, ◌+◌, ◌<◌, ◌≤◌, List, [], ◌∷◌, ◌⊎◌, length, true, if◌then◌else◌, Some, None, IsTrue, refl, sym, ap, ◌∙◌, subst, arith, inl, inr}
use Rattle.std.specs.Prelude.{map, filter, get_or, nat_lt, Bool}
use Rattle.std.proofs.lemmas.Bool.{lt-ltb}
use Rattle.std.proofs.lemmas.List.{append-nil}
use Rattle.fab_base.specs.Seen.{Seen, SameFiles}
use Rattle.fab_config.specs.Settings.{Settings}
use Rattle.pcap_file.specs.declared.Record.{Record}
use Rattle.fab_policy.specs.Growing.{NothingIsRun}
use Rattle.fab_policy.specs.Journal.{Journal}
use Rattle.fab_policy.specs.Legal.{Run, window_start}
use Rattle.fab_base.specs.Counting.{counting}
use Rattle.window_records.specs.Looks.{Opened, all_records, kept}
use Rattle.fab_policy.specs.Text.{text, egress}
use Rattle.fab_policy.specs.Written.{before, egresses}
use Rattle.fab_windows.specs.Run.{IsRunOver}
use Rattle.run_files.specs.Opening.{OpenedUpTo}
use Rattle.fabric_tool.specs.Command.{RunNames}
use Rattle.fabric_tool.specs.Inputs.{HasInputs, kept_of}
use Rattle.fabric_tool.specs.Left.{AreUnwritten, HoldsAll, HoldsFronts, IsOldOrFront, AreOldOrFront, HasRun, HasStopped, HasWholePart, HasFrontPart}

-- ---- a moment behind all records

-- a number above all windows of these records
above : Settings → List Record → ℕ
above c [] = 0
above c (r ∷ records) = suc (window_start c r.moment) + above c records

above_all : Settings → List (List Record) → ℕ
above_all c [] = 0
above_all c (records ∷ ins) = above c records + above_all c ins

kept_below : (c : Settings) (t : ℕ) (records : List Record) → above c records ≤ t → filter (λ r. nat_lt (window_start c r.moment) t) records ≡ records
unfolding above
kept_below c t [] le = refl
kept_below c t (r ∷ records) le =
    let early : nat_lt (window_start c r.moment) t ≡ true = lt-ltb (window_start c r.moment) t (omega arith) in
    ap (λ (b : Bool). if b then r ∷ filter (λ q. nat_lt (window_start c q.moment) t) records else filter (λ q. nat_lt (window_start c q.moment) t) records) early
    ∙ ap (λ l. r ∷ l) (kept_below c t records (omega arith))

all_below : (c : Settings) (t : ℕ) (ins : List (List Record)) → above_all c ins ≤ t → before c t ins ≡ ins
unfolding above_all
all_below c t [] le = refl
all_below c t (records ∷ ins) le = let first = kept_below c t records (omega arith) in let rest = all_below c t ins (omega arith) in cc

-- ---- whole files are fronts

pub all_fronts : (old new : Seen) (names wholes : List (List ℕ)) → map (λ n. new.file n) names ≡ map (λ l. Some l) wholes → AreOldOrFront old new names wholes
all_fronts old new [] [] are = tt
all_fronts old new [] (whole ∷ wholes) are = absurd (cc)
all_fronts old new (name ∷ names) [] are = absurd (cc)
all_fronts old new (name ∷ names) (whole ∷ wholes) are =
    let first : new.file name ≡ Some whole = cc in
    let rest : map (λ n. new.file n) names ≡ map (λ l. Some l) wholes = cc in
    (inr (whole, first, ([], append-nil whole)), all_fronts old new names wholes rest)

-- the file of a port, of files by their names
at_port : (d : Seen) (names : List (List ℕ)) (g : ℕ → List ℕ) (k : ℕ) → map (λ n. d.file n) names ≡ map (λ l. Some l) (map g (counting k (length names))) → (q : ℕ) → q < length names → d.file (get_or names q []) ≡ Some (g (k + q))
at_port d [] g k are q lt = absurd (omega arith)
at_port d (n ∷ names) g k are zero lt =
    let first : d.file n ≡ Some (g k) = cc in
    let e : k ≡ k + 0 = omega arith in
    first ∙ ap (λ (p : ℕ). Some (g p)) e
at_port d (n ∷ names) g k are (suc q) lt =
    let rest : map (λ n. d.file n) names ≡ map (λ l. Some l) (map g (counting (k + 1) (length names))) = cc in
    let e : k + 1 + q ≡ k + suc q = omega arith in
    at_port d names g (k + 1) rest q (omega arith) ∙ ap (λ (p : ℕ). Some (g p)) e

pub whole_fronts : (k : RunNames) (names : List (List ℕ)) (c : Settings) (old new : Seen) (J : Journal) → HoldsAll k c new J → HoldsFronts k names c old new J
whole_fronts k names c old new J holds = record {
  lines = inr (text J, holds.lines, ([], append-nil (text J)));
  captures = all_fronts old new k.outs (egresses c (length k.outs) J) holds.captures;
  order = inr (record {
    before = Some J;
    begins = ([], refl);
    order = inl (record {
      lines_ = (text J, holds.lines, ([], append-nil (text J)));
      records = λ q lt. let e : 1 + q ≡ q + 1 = omega arith in at_port new k.outs (λ p. egress c (length k.outs) p J) 1 holds.captures q lt ∙ ap (λ (p : ℕ). Some (egress c (length k.outs) p J)) e;
    });
  });
}

whole_part : (k : RunNames) (c : Settings) (opened : List Opened) (old new : Seen) (J : Journal) → HasInputs k old c opened → IsRunOver c (kept_of c opened) J → HoldsAll k c new J → HasFrontPart k old new
whole_part k c opened old new J inputs run holds = record {
  settings = c;
  opened = opened;
  inputs = inputs;
  moment = above_all c (kept_of c opened);
  journal = J;
  run = subst (λ l. IsRunOver c l J) (sym (all_below c (above_all c (kept_of c opened)) (kept_of c opened) (omega arith))) run;
  files = whole_fronts k (k.journal ∷ k.outs) c old new J holds;
}

pub part_front : (k : RunNames) (old new : Seen) → HasWholePart k old new → HasFrontPart k old new
part_front k old new w = record { settings = w.settings; opened = w.opened; inputs = w.inputs; moment = w.moment; journal = w.journal; run = w.run; files = whole_fronts k (k.journal ∷ k.outs) w.settings old new w.journal w.files }

-- a run that stopped, and one to the end
pub stopped_part : (k : RunNames) (old new : Seen) (e : _) → HasStopped k e old new → HasFrontPart k old new
stopped_part k old new e s = whole_part k s.stops.settings s.stops.opened old new s.journal s.stops.inputs s.run s.files

keeps_all : (c : Settings) (ins : List (List Record)) → map (kept c None) ins ≡ ins
keeps_all c [] = refl
keeps_all c (records ∷ ins) = ap (λ l. records ∷ l) (keeps_all c ins)

pub ran_part : (k : RunNames) (frames entries : ℕ) (old new : Seen) → HasRun k frames entries old new → HasFrontPart k old new
ran_part k frames entries old new h =
    let all : kept_of h.settings h.opened ≡ all_records h.opened = ap (λ s. map (kept h.settings s) (all_records h.opened)) h.none ∙ keeps_all h.settings (all_records h.opened) in
    whole_part k h.settings h.opened old new h.journal h.inputs (subst (λ l. IsRunOver h.settings l h.journal) (sym all) h.run) h.files

-- ---- nothing is written yet

pub empty_fronts : (old new : Seen) → ((m : List ℕ) → (new.file m ≡ old.file m) ⊎ (new.file m ≡ Some [])) → (names : List (List ℕ)) (g : ℕ → List ℕ) (k : ℕ) → AreOldOrFront old new names (map g (counting k (length names)))
empty_fronts old new each [] g k = tt
empty_fronts old new each (n ∷ names) g k = (empty_front old new each n (g k), empty_fronts old new each names g (k + 1))
  where
    empty_front : (old new : Seen) → ((m : List ℕ) → (new.file m ≡ old.file m) ⊎ (new.file m ≡ Some [])) → (m whole : List ℕ) → IsOldOrFront old new m whole
    empty_front old new each m whole = elim (each m) [ inl same ↦ inl same | inr empty ↦ inr ([], empty, (whole, refl)) ]

-- some of them couldn't be opened
pub unwritten : (names : List (List ℕ)) (old m new : Seen) → SameFiles old m → IsTrue m.told → OpenedUpTo names m new → AreUnwritten names old new
unwritten names old m new same told o =
    record { before = o.before; behind = o.name ∷ o.behind; are = o.are; empty = o.empty told; same = λ n other. o.touches.files n other ∙ same n }

pub empty_part : (k : RunNames) (c : Settings) (opened : List Opened) (old new : Seen) → NothingIsRun → HasInputs k old c opened → ((m : List ℕ) → (new.file m ≡ old.file m) ⊎ (new.file m ≡ Some [])) → AreUnwritten (k.journal ∷ k.outs) old new → HasFrontPart k old new
empty_part k c opened old new nothing inputs each order =
    let n = nothing c (kept_of c opened) in
    record {
      settings = c;
      opened = opened;
      inputs = inputs;
      moment = 0;
      journal = [];
      run = record { ranged = tt; run = subst (λ l. Run c l []) (sym n.1) n.0 };
      files = record {
        lines = elim (each k.journal) [ inl same ↦ inl same | inr empty ↦ inr ([], empty, (text [], refl)) ];
        captures = empty_fronts old new each k.outs (λ p. egress c (length k.outs) p []) 1;
        order = inl order;
      };
    }
