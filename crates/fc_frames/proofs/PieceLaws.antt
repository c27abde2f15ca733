-- Ranges that cut a payload against its pieces.
use Rattle.std.proofs.Common.{◌≡◌, ℕ, zero, suc, ◌+◌, ◌-◌, ◌<◌, ◌≤◌, Bool, true, false, leb, List, [], ◌∷◌, ◌++◌, length, length-drop, take, drop, map, refl, sym, ap, ◌∙◌, arith}
use Rattle.std.proofs.lemmas.Bool.{le-leb, lt-leb}
use Rattle.std.proofs.lemmas.List.{drop-drop, drop-take, take_all}
use Rattle.fc_frames.specs.declared.Piece.{Piece}
use Rattle.fc_frames.specs.Pieces.{Cuts, piece_of, pieces}
use Rattle.fc_frames.proofs.PieceLemmas.{begins_within}

-- a step of `pieces`, by whether the rest is the last piece
abbrev step : ℕ → ℕ → List ℕ → Bool → List (List ℕ)
step n size l is_last = elim is_last [ true ↦ l ∷ [] | false ↦ take size l ∷ pieces n size (drop size l) ]

cuts_some : (whole size from : ℕ) (ps : List Piece) → Cuts whole size from ps → 0 < size
cuts_some whole size from [] cuts = absurd cuts
cuts_some whole size from (p ∷ []) cuts = let lt = cuts.3 in let le = cuts.4 in omega arith
cuts_some whole size from (p ∷ q ∷ ps) cuts = cuts_some whole size (from + size) (q ∷ ps) cuts.3

-- each piece has a byte
cuts_count : (whole size from : ℕ) (ps : List Piece) → 0 < size → Cuts whole size from ps → from + length ps ≤ whole
cuts_count whole size from [] some cuts = absurd cuts
cuts_count whole size from (p ∷ []) some cuts = let lt = cuts.3 in omega arith
cuts_count whole size from (p ∷ q ∷ ps) some cuts = let more = cuts_count whole size (from + size) (q ∷ ps) some cuts.3 in omega arith

piece-is : (l : List ℕ) (p : Piece) (from to : ℕ) → p.from ≡ from → p.to ≡ to → piece_of l p ≡ drop from (take to l)
piece-is l p from to is_from is_to = ap (λ (n : ℕ). drop n (take p.to l)) is_from ∙ ap (λ (n : ℕ). drop from (take n l)) is_to

pieces_from : (n size from : ℕ) (l : List ℕ) (ps : List Piece) → length ps ≤ n → Cuts (length l) size from ps → map (piece_of l) ps ≡ pieces n size (drop from l)
pieces_from n size from l [] enough cuts = absurd cuts
pieces_from zero size from l (p ∷ ps) enough cuts = absurd (omega arith)
pieces_from (suc n) size from l (p ∷ []) enough cuts =
    let le = cuts.4 in
    let short : leb (length (drop from l)) size ≡ true = le-leb _ _ (omega (arith, length-drop from l)) in
    ap (λ m. m ∷ []) (piece-is l p from (length l) cuts.0 cuts.1 ∙ ap (drop from) (take_all (length l) l (omega arith))) ∙ ap (step n size (drop from l)) (sym short)
pieces_from (suc n) size from l (p ∷ q ∷ ps) enough cuts =
    let more = begins_within (length l) size (from + size) (q ∷ ps) cuts.3 in
    let long : leb (length (drop from l)) size ≡ false = lt-leb _ _ (omega (arith, length-drop from l)) in
    let first : piece_of l p ≡ take size (drop from l) = piece-is l p from (from + size) cuts.0 cuts.1 ∙ drop-take from size l in
    let rest : map (piece_of l) (q ∷ ps) ≡ pieces n size (drop size (drop from l)) = pieces_from n size (from + size) l (q ∷ ps) (omega arith) cuts.3 ∙ ap (pieces n size) (sym (drop-drop size from l)) in
    ap (λ m. m ∷ map (piece_of l) (q ∷ ps)) first ∙ ap (λ m. take size (drop from l) ∷ m) rest ∙ ap (step n size (drop from l)) (sym long)

pub pieces-cuts : (l : List ℕ) (size : ℕ) (ps : List Piece) → Cuts (length l) size 0 ps → map (piece_of l) ps ≡ pieces (length l) size l
pieces-cuts l size ps cuts = pieces_from (length l) size 0 l ps (let few = cuts_count (length l) size 0 ps (cuts_some (length l) size 0 ps cuts) cuts in omega arith) cuts

-- ---- the mark

marked_here : (whole size from : ℕ) (p : Piece) (after : List Piece) → Cuts whole size from (p ∷ after) → (p.last ≡ true → after ≡ []) × (after ≡ [] → p.last ≡ true)
marked_here whole size from p [] cuts = (λ _. refl, λ _. cuts.2)
marked_here whole size from p (q ∷ ps) cuts = (λ is. let no = cuts.2 in cc, λ is. cc)

pub marked : (whole size from : ℕ) (before after : List Piece) (p : Piece) → Cuts whole size from (before ++ p ∷ after) → (p.last ≡ true → after ≡ []) × (after ≡ [] → p.last ≡ true)
marked whole size from [] after p cuts = marked_here whole size from p after cuts
marked whole size from (b ∷ []) after p cuts = marked whole size (from + size) [] after p cuts.3
marked whole size from (b ∷ c ∷ before) after p cuts = marked whole size (from + size) (c ∷ before) after p cuts.3
