-- One more piece.
use Rattle.std.proofs.Common.{◌≡◌, ℕ, zero, suc, ◌+◌, ◌<◌, ◌≤◌, List, [], ◌∷◌, ◌++◌, All, ◌*◌, ◌^◌, length, arith}
use Rattle.std.proofs.lemmas.List.Elements.{All-cons}
use Rattle.std.proofs.Math.Nat.{mul-le-mul_left}
use Rattle.fc_frames.specs.declared.Piece.{Piece}
use Rattle.fc_frames.specs.Pieces.{Cuts}

-- pieces in front of those that cut the rest
pub record Leads (length size from : ℕ) (before : List Piece) : Type 0 where
  pub whole : (after : List Piece) → Cuts length size from after → Cuts length size 0 (before ++ after)

-- cut pieces begin before the end
pub begins_within : (length size from : ℕ) (ps : List Piece) → Cuts length size from ps → from < length
begins_within length size from [] cuts = absurd cuts
begins_within length size from (p ∷ []) cuts = cuts.3
begins_within length size from (p ∷ q ∷ ps) cuts = let more = begins_within length size (from + size) (q ∷ ps) cuts.3 in omega arith

abbrev Within : ℕ → Piece → Type 0
Within length p = (p.from < p.to) × (p.to ≤ length)

within_first : (p : Piece) (from length : ℕ) → p.from ≡ from → p.to ≡ length → from < length → Within length p
within_first p from length is_from is_to lt = (omega arith, omega arith)

-- each piece has a byte and lies within the length
pub cuts_within : (length size from : ℕ) (ps : List Piece) → 0 < size → Cuts length size from ps → All (λ p. (p.from < p.to) × (p.to ≤ length)) ps
cuts_within length size from [] some cuts = absurd cuts
cuts_within length size from (p ∷ []) some cuts = All-cons (Within length) p [] (within_first p from length cuts.0 cuts.1 cuts.3) (λ k d lt. absurd (omega arith))
cuts_within length size from (p ∷ q ∷ ps) some cuts =
    let more = begins_within length size (from + size) (q ∷ ps) cuts.3 in
    All-cons (Within length) p (q ∷ ps) (let c0 = cuts.0 in let c1 = cuts.1 in (omega arith, omega arith)) (cuts_within length size (from + size) (q ∷ ps) some cuts.3)

-- so many whole pieces lie before the last one
pub cuts_few : (len size from : ℕ) (ps : List Piece) → Cuts len size from ps → from + length ps * size < len + size
cuts_few len size from [] cuts = absurd cuts
cuts_few len size from (p ∷ []) cuts = let h = cuts.3 in omega arith
cuts_few len size from (p ∷ q ∷ ps) cuts = let more = cuts_few len size (from + size) (q ∷ ps) cuts.3 in grind arith

pub at_most : (len size n : ℕ) → 256 ≤ size → len ≤ 2 ^ 20 → n * size < len + size → n ≤ 4096
at_most len size zero least most few = omega arith
at_most len size (suc n) least most few =
    let whole : n * 256 ≤ n * size = mul-le-mul_left n least in
    let one : suc n * size ≡ n * size + size = grind arith in
    omega arith
