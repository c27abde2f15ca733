-- What is handed to the windows: inputs whose heads were read, and outputs that are open and empty, all of different names.
use Rattle.std.proofs.Common.{◌≡◌, ℕ, zero, suc, ◌+◌, ◌*◌, ◌<◌, List, [], ◌∷◌, length, get_or, true, IsTrue, refl, sym, ap, ◌∙◌, subst, arith, inl, inr}
use Rattle.std.specs.Prelude.{String}
use Rattle.std.specs.declared.alloc.Global.{Global}
use Rattle.fab_base.specs.Seen.{Seen}
use Rattle.window_records.specs.First.{AreFresh}
use Rattle.fab_base.specs.Slots.{slot_at, name_of, NameIn}
use Rattle.window_records.specs.Ports.{slots_of}
use Rattle.window_records.specs.declared.shelf.Input.{Input}
use Rattle.fab_windows.specs.Files.{Written}
use Rattle.fab_windows.specs.Run.{AreGiven}
use Rattle.fabric_tool.specs.Command.{are_pairs, run_of, port_count, input_at, output_at}
use Rattle.run_files.specs.Names.{Among}
use Rattle.run_files.specs.Opening.{AreEmptyOutputs}
use Rattle.fabric_tool.specs.Reading.{AreHeads}
use Rattle.run_files.proofs.NameLemmas.{counted_among, length-counted}
use Rattle.run_files.proofs.OpenLemmas.{At, slots_count, there, are_outputs}
use Rattle.fabric_tool.proofs.HeadLemmas.{heads_count}
use Rattle.fabric_tool.proofs.NameLemmas.{pairs, one_place, name_counted, inputs_apart}

-- ---- slots by their places

input_named : (a d : Seen) (names : List (List ℕ)) (ins : List Input) (q : ℕ) → q < length ins → AreHeads a d names ins → IsTrue (d.input (slot_at (slots_of ins) q)) × (name_of d (slots_of ins) q ≡ get_or names q [])
input_named a d [] [] q lt are = absurd (omega arith)
input_named a d [] (i ∷ ins) q lt are = absurd are
input_named a d (n ∷ names) [] q lt are = absurd are
input_named a d (n ∷ names) (i ∷ ins) zero lt are = (are.0.slot, are.0.name_)
input_named a d (n ∷ names) (i ∷ ins) (suc q) lt are = input_named a d names ins q (omega arith) are.1

pub all_fresh : (a d : Seen) (names : List (List ℕ)) (ins : List Input) → AreHeads a d names ins → AreFresh ins
all_fresh a d [] [] are = tt
all_fresh a d [] (i ∷ ins) are = absurd are
all_fresh a d (n ∷ names) [] are = absurd are
all_fresh a d (n ∷ names) (i ∷ ins) are = (are.0.fresh, all_fresh a d names ins are.1)

-- ---- all of them

module _ (words : List (String Global)) (run : are_pairs words ≡ true) (a d : Seen) (ins : List Input) (journal : ℕ) (outs : List ℕ)
    (heads : AreHeads a d (run_of words).ins ins) (outputs : AreEmptyOutputs d ((run_of words).journal ∷ (run_of words).outs) (journal ∷ outs)) where
  ports : ℕ
  ports = port_count words

  fits : 2 * port_count words + 3 ≡ length words
  fits = (pairs words run).fits

  pub ins_count : length ins ≡ port_count words
  ins_count = heads_count a d (run_of words).ins ins heads ∙ length-counted (input_at words) 0 (port_count words)

  pub outs_count : length outs ≡ port_count words
  outs_count = slots_count d (output_at words) (port_count words) outs outputs.1

  in_name : (q : ℕ) → q < length ins → name_of d (slots_of ins) q ≡ input_at words q
  in_name q lt = (input_named a d (run_of words).ins ins q lt heads).1 ∙ name_counted (input_at words) (port_count words) q (let n = ins_count in omega arith)

  an_output : (q : ℕ) → q < length outs → At d (output_at words q) (slot_at outs q)
  an_output q lt = there d (output_at words) (port_count words) outs outputs.1 q (let n = outs_count in omega arith)

  pub slots_length : length (slots_of ins) ≡ length ins
  slots_length = go ins
    where
      go : (l : List Input) → length (slots_of l) ≡ length l
      go [] = refl
      go (i ∷ l) = let h = go l in omega arith

  -- a slot of the journal or of an output has one of their names
  pub written_among : (m : List ℕ) → Written d journal outs m → Among ((run_of words).journal ∷ (run_of words).outs) m
  written_among m (inl is) = inl (is ∙ outputs.0.1)
  written_among m (inr at) =
      let n = outs_count in
      let lt = at.1 in
      inr (subst (Among (run_of words).outs) (sym (at.2 ∙ (an_output at.0 at.1).name_is)) (counted_among (output_at words) 0 (port_count words) at.0 (omega arith) (omega arith)))

  pub read_among : (m : List ℕ) → NameIn d (slots_of ins) m → Among (run_of words).ins m
  read_among m at =
      let n = ins_count in
      let l = slots_length in
      let lt = at.1 in
      subst (Among (run_of words).ins) (sym (at.2 ∙ in_name at.0 (omega arith))) (counted_among (input_at words) 0 (port_count words) at.0 (omega arith) (omega arith))

  pub given : AreGiven d ins journal outs
  given =
      let n = ins_count in
      let m = outs_count in
      let l = slots_length in
      record {
        inputs = record {
          inputs = λ q lt. (input_named a d (run_of words).ins ins q (omega arith) heads).0;
          differ = λ p q lp lq same.
              let place = one_place words (2 * p + 3) (2 * q + 3) run (omega arith) (omega (arith, fits)) (omega arith) (omega (arith, fits)) (sym (in_name p (omega arith)) ∙ same ∙ in_name q (omega arith)) in
              omega arith;
        };
        files = record {
          journal_ = outputs.0.0;
          outs_ = are_outputs d (output_at words) (port_count words) outs outputs.1 (λ p q lp lq same.
              let place = one_place words (2 * p + 4) (2 * q + 4) run (omega arith) (omega (arith, fits)) (omega arith) (omega (arith, fits)) same in
              omega arith);
          apart = λ q lt same.
              let place = one_place words (2 * q + 4) 2 run (omega arith) (omega (arith, fits)) (omega arith) (omega (arith, fits)) (sym (an_output q lt).name_is ∙ same ∙ outputs.0.1) in
              absurd (omega arith);
        };
        apart = λ name input output. inputs_apart words run name (read_among name input) (written_among name output);
        fresh = all_fresh a d (run_of words).ins ins heads;
        empty = λ told. (
          ap d.file outputs.0.1 ∙ outputs.0.2 told,
          λ q lt. ap d.file (an_output q lt).name_is ∙ (an_output q lt).empty told,
        );
      }
