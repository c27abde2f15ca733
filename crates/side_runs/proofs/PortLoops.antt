-- The loops over the ports: the captures that are read, and the outputs that are opened.
use Rattle.std.proofs.Common.{◌≡◌, ℕ, ◌+◌, ◌-◌, ◌<◌, List, [], ◌∷◌, ◌++◌, length, Ok, Err, sym, ap, subst}
use Rattle.std.specs.Prelude.{String, Result, map}
use Rattle.std.specs.declared.alloc.Global.{Global}
use Rattle.fab_base.specs.Seen.{Seen, OpensOut}
use Rattle.fab_base.specs.declared.values.Failed.{Failed}
use Rattle.pcap_file.specs.declared.Budget.{Budget}
use Rattle.pcap_file.specs.declared.Record.{Record}
use Rattle.fab_base.specs.Counting.{counting}
use Rattle.pcap_file.specs.declared.fault.GatherFault.{GatherFault}
use Rattle.pcap_file.specs.declared.fault.GatherFault.TheVariants as gather
use Rattle.side_runs.specs.Opening.{ReadsInput, ReadsInputs, OpensOutputs}
use Rattle.side_runs.specs.Sides.{side_count, input_at, output_at, ins_of, outs_of, AreDifferent}
use Rattle.side_runs.proofs.InputLemmas.{InputsSoFar, inputs_more, inputs_failed, inputs_no_room}
use Rattle.side_runs.proofs.NameLemmas.{new_output}
use Rattle.run_files.proofs.NameLemmas.{split_names, push_name, length-counted}
use Rattle.run_files.proofs.OpenLemmas.{OpenedSoFar, opened_more, opened_failed, slots_count}

-- what was read of a word and of a number
pub read_as : {q p : ℕ} {m n : List ℕ} {a b : Seen} {had left : Budget} {r : Result (List Record) GatherFault} → q ≡ p → m ≡ n → ReadsInput q m a b had left r → ReadsInput p n a b had left r
read_as {q} {p} {m} {n} {a} {b} {had} {left} {r} e f read = subst (λ (x : ℕ). ReadsInput x n a b had left r) e (subst (λ l. ReadsInput q l a b had left r) f read)

-- what an opening of a word did
pub out_as : {m n : List ℕ} {b d : Seen} {r : Result ℕ Failed} → m ≡ n → OpensOut {E = Failed} m b d r → OpensOut {E = Failed} n b d r
out_as {m} {n} {b} {d} {r} e o = subst (λ l. OpensOut {E = Failed} l b d r) e o

module _ (sides : List (String Global)) (p : ℕ) (lt : p < side_count sides) (a b d : Seen) where
  abbrev before : (ℕ → List ℕ) → List (List ℕ)
  before f = map f (counting 0 p)

  abbrev behind : (ℕ → List ℕ) → List (List ℕ)
  behind f = map f (counting (p + 1) (side_count sides - (p + 1)))

  module _ (ins : List (List Record)) (had left left' : Budget) (h : InputsSoFar (map (input_at sides) (counting 0 p)) a b ins had left) where
    number : p + 1 ≡ length (before (input_at sides)) + 1
    number = ap (λ (n : ℕ). n + 1) (sym (length-counted (input_at sides) 0 p))

    counted : {r : Result (List Record) GatherFault} → ReadsInput (p + 1) (input_at sides p) b d left left' r → ReadsInput (length (before (input_at sides)) + 1) (input_at sides p) b d left left' r
    counted {r} read = subst (λ (n : ℕ). ReadsInput n (input_at sides p) b d left left' r) number read

    pub input_more : (rs : List Record) → ReadsInput (p + 1) (input_at sides p) b d left left' (Ok rs) → InputsSoFar (map (input_at sides) (counting 0 (p + 1))) a d (ins ++ rs ∷ []) had left'
    input_more rs read =
        subst (λ names. InputsSoFar names a d (ins ++ rs ∷ []) had left') (sym (push_name (input_at sides) p))
        (inputs_more (before (input_at sides)) a b ins had left h (input_at sides p) d left' rs (counted read))

    pub input_failed : (e : GatherFault) → ReadsInput (p + 1) (input_at sides p) b d left left' (Err e) → ReadsInputs (ins_of sides) a d had (Err e)
    input_failed e read =
        inputs_failed (before (input_at sides)) a b ins had left h (input_at sides p) d left' (ins_of sides) (behind (input_at sides)) (split_names (input_at sides) (side_count sides) p lt) e (counted read)

    pub input_no_room : (rs : List Record) → ReadsInput (p + 1) (input_at sides p) b d left left' (Ok rs) → ReadsInputs (ins_of sides) a d had (Err gather.Memory)
    input_no_room rs read =
        inputs_no_room (before (input_at sides)) a b ins had left h (input_at sides p) d left' (ins_of sides) (behind (input_at sides)) (split_names (input_at sides) (side_count sides) p lt) rs (counted read)

  module _ (slots : List ℕ) (h : OpenedSoFar (map (output_at sides) (counting 0 p)) a b slots) where
    pub output_more : (s : ℕ) → AreDifferent sides → OpensOut {E = Failed} (output_at sides p) b d (Ok s) → OpenedSoFar (map (output_at sides) (counting 0 (p + 1))) a d (slots ++ s ∷ [])
    output_more s different o =
        subst (λ names. OpenedSoFar names a d (slots ++ s ∷ [])) (sym (push_name (output_at sides) p))
        (opened_more (before (output_at sides)) a b slots h (output_at sides p) d s (new_output sides different p lt) o)

    pub output_failed : (e : Failed) → OpensOut {E = Failed} (output_at sides p) b d (Err e) → OpensOutputs (outs_of sides) a d (Err e)
    output_failed e o =
        let failed = opened_failed (before (output_at sides)) a b slots h (output_at sides p) d (outs_of sides) (behind (output_at sides)) (split_names (output_at sides) (side_count sides) p lt) e o in
        record { opens = failed.0; slots = tt; cause = failed.1; counts = tt }

    pub opened_count : length slots ≡ p
    opened_count = slots_count b (output_at sides) p slots h.are
