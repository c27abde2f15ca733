-- The pieces of a payload (FC-FS-3, the frames of a Sequence).
use Rattle.std.specs.Prelude.{◌≡◌, ℕ, zero, suc, ◌+◌, ◌<◌, ◌≤◌, nat_le, List, [], ◌∷◌, length, take, drop, false, true}
use Rattle.fc_frames.specs.declared.Piece.{Piece}

-- Ranges that adjoin from a place on and end at the length: all but the last have that size, and only the last is marked.
abbrev pub Cuts : (whole size from : ℕ) → List Piece → Type 0
Cuts whole size from [] = ⊥
Cuts whole size from (p ∷ []) = (p.from ≡ from) × (p.to ≡ whole) × (p.last ≡ true) × (from < whole) × (whole ≤ from + size)
Cuts whole size from (p ∷ q ∷ ps) = (p.from ≡ from) × (p.to ≡ from + size) × (p.last ≡ false) × Cuts whole size (from + size) (q ∷ ps)

-- a payload in pieces of a size, of which there are at most n
abbrev pub pieces : ℕ → ℕ → List ℕ → List (List ℕ)
pieces zero size l = []
pieces (suc n) size l = elim (nat_le (length l) size) [ true ↦ l ∷ [] | false ↦ take size l ∷ pieces n size (drop size l) ]

-- the bytes of a payload in a range
abbrev pub piece_of : List ℕ → Piece → List ℕ
piece_of l p = drop p.from (take p.to l)
