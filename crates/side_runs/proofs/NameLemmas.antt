-- The names of a bridge's ports, and one of several names.
use Rattle.std.proofs.Common.{◌≡◌, ◌≢◌, ℕ, ◌+◌, ◌*◌, ◌<◌, List, length, inl, inr, sym, ◌∙◌, arith}
use Rattle.std.specs.Prelude.{String, map}
use Rattle.std.specs.declared.alloc.Global.{Global}
use Rattle.fab_base.specs.Places.{name_at}
use Rattle.fab_base.specs.Counting.{counting}
use Rattle.pcap_file.proofs.lemmas.Numbers.{le_or_lt}
use Rattle.run_files.specs.Names.{Among}
use Rattle.run_files.proofs.NameLemmas.{among_counted}
use Rattle.side_runs.specs.Sides.{side_count, input_at, output_at, ins_of, outs_of, AreDifferent}

module _ (sides : List (String Global)) (different : AreDifferent sides) where
  -- names at different places differ
  apart : (i j : ℕ) → i < length sides → j < length sides → i ≢ j → name_at sides i ≢ name_at sides j
  apart i j li lj ne same = elim (le_or_lt j i) [
    | inl ge ↦ elim (le_or_lt i j) [ inl le ↦ ne (omega (arith, le, ge)) | inr lt ↦ different j i lt li (sym same) ]
    | inr lt ↦ different i j lt lj same
  ]

  pub outputs_differ : (p q : ℕ) → p < side_count sides → q < side_count sides → output_at sides p ≡ output_at sides q → p ≡ q
  outputs_differ p q lp lq same = elim (le_or_lt p q) [
    | inl le ↦ elim (le_or_lt q p) [ inl ge ↦ omega (arith, le, ge) | inr lt ↦ absurd (different (2 * p + 1) (2 * q + 1) (omega (arith, lt)) (omega (arith, lq)) same) ]
    | inr lt ↦ absurd (different (2 * q + 1) (2 * p + 1) (omega (arith, lt)) (omega (arith, lp)) (sym same))
  ]

  -- an output that is opened is none of those before it
  pub new_output : (p : ℕ) → p < side_count sides → Among (map (output_at sides) (counting 0 p)) (output_at sides p) → ⊥
  new_output p lt among =
      let at = among_counted (output_at sides) 0 p (output_at sides p) among in
      let same = outputs_differ p at.0 lt (omega (arith, lt, at.2)) at.3 in
      omega (arith, same, at.2)

  -- no output is an input
  pub ins_apart : (m : List ℕ) → Among (ins_of sides) m → Among (outs_of sides) m → ⊥
  ins_apart m input output =
      let i = among_counted (input_at sides) 0 (side_count sides) m input in
      let o = among_counted (output_at sides) 0 (side_count sides) m output in
      apart (2 * i.0) (2 * o.0 + 1) (omega (arith, i.2)) (omega (arith, o.2)) (λ e. omega (arith, e)) (sym i.3 ∙ o.3)
