-- The head of a stream is read as its interfaces.
use Rattle.std.proofs.Common.{◌≡◌, ℕ, zero, suc, ◌+◌, ◌≤◌, false, List, [], ◌∷◌, ◌++◌, length, append_assoc, replicate, take, Some, refl, sym, ap, ◌∙◌, subst, arith}
use Rattle.std.proofs.lemmas.Bool.{le-ltb}
use Rattle.std.proofs.lemmas.List.{take-replicate}
use Rattle.std.specs.Prelude.{is_none, option_map, unwrap_or}
use Rattle.fab_base.specs.Layout.{zeros}
use Rattle.pcapng_file.specs.Block.{entries, said_by, no_options, interface_of}
use Rattle.pcapng_file.specs.File.{before_all}
use Rattle.pcapng_file.specs.Stream.{Parts, Goes}
use Rattle.pcapng_file.proofs.StreamLemmas.{goes_on}
use Rattle.wire_store.specs.Written.{section_bytes, face_bytes, faces_bytes, stream_head, nano_face, faces_of, section_of}

section_part : (l : List ℕ) → Parts 1 before_all [] (section_bytes ++ l) (section_of 0) l
section_part l = (
  (le-ltb (length (section_bytes ++ l)) 12 (omega arith), (refl, (refl, (refl, tt)))),
  (le-ltb (length (section_bytes ++ l)) 28 (omega arith), (refl, (refl, tt))),
  [],
  refl,
  (refl, refl, refl),
)

-- one more interface stands behind those that are there
faces_more : (n : ℕ) → faces_of n ++ nano_face ∷ [] ≡ faces_of (suc n)
faces_more zero = refl
faces_more (suc n) = ap (λ l. nano_face ∷ l) (faces_more n)

-- what the options of an interface say
abbrev options_bytes : List ℕ
options_bytes = 9 ∷ 0 ∷ 1 ∷ 0 ∷ 9 ∷ 0 ∷ 0 ∷ 0 ∷ 0 ∷ 0 ∷ 0 ∷ 0 ∷ []

options_are : entries false options_bytes ≡ Some (record { code = 9; value = 9 ∷ [] } ∷ [])
unfolding entries
options_are = refl

face_part : (k : ℕ) (l : List ℕ) → Parts 1 (section_of k) [] (face_bytes ++ l) (section_of (suc k)) l
face_part k l = (
  (le-ltb (length (face_bytes ++ l)) 12 (omega arith), (refl, (refl, (refl, tt)))),
  (le-ltb (length (face_bytes ++ l)) 32 (omega arith), (refl, ((λ i. is_none (option_map said_by (options_are i))), tt))),
  [],
  refl,
  (
    refl,
    (λ i. record { order = Some false; faces = faces_of k ++ interface_of false face_bytes (unwrap_or (option_map said_by (options_are i)) no_options) ∷ [] }) ∙ ap (λ (fs : _). record { order = Some false; faces = fs }) (faces_more k),
    refl,
  ),
)

faces_go : (n k : ℕ) (l : List ℕ) → Goes [] (section_of k) (faces_bytes n ++ l) (section_of (n + k)) l
faces_go zero k l = (0, (refl, (let e : k ≡ 0 + k = omega arith in ap section_of e), refl))
faces_go (suc n) k l =
    let e : n + suc k ≡ suc n + k = omega arith in
    let more : Goes [] (section_of (suc k)) (faces_bytes n ++ l) (section_of (suc n + k)) l = subst (λ (m : ℕ). Goes [] (section_of (suc k)) (faces_bytes n ++ l) (section_of m) l) e (faces_go n (suc k) l) in
    subst (λ (z : List ℕ). Goes [] (section_of k) z (section_of (suc n + k)) l) (sym (append_assoc face_bytes (faces_bytes n) l))
    (goes_on (section_of k) [] (face_bytes ++ (faces_bytes n ++ l)) (section_of (suc k)) (faces_bytes n ++ l) (section_of (suc n + k)) l (1, face_part k (faces_bytes n ++ l)) more)

pub head_goes : (n : ℕ) (l : List ℕ) → Goes [] before_all (stream_head n ++ l) (section_of n) l
head_goes n l =
    let e : n + 0 ≡ n = omega arith in
    let more : Goes [] (section_of 0) (faces_bytes n ++ l) (section_of n) l = subst (λ (m : ℕ). Goes [] (section_of 0) (faces_bytes n ++ l) (section_of m) l) e (faces_go n 0 l) in
    subst (λ (z : List ℕ). Goes [] before_all z (section_of n) l) (sym (append_assoc section_bytes (faces_bytes n) l))
    (goes_on before_all [] (section_bytes ++ (faces_bytes n ++ l)) (section_of 0) (faces_bytes n ++ l) (section_of n) l (1, section_part (faces_bytes n ++ l)) more)

-- ---- for the writer

faces_last : (n : ℕ) → faces_bytes n ++ face_bytes ≡ faces_bytes (suc n)
faces_last zero = refl
faces_last (suc n) = append_assoc face_bytes (faces_bytes n) face_bytes ∙ ap (λ l. face_bytes ++ l) (faces_last n)

pub head_more : (n k : ℕ) (m : List ℕ) → k ≡ suc n → m ≡ stream_head n → m ++ face_bytes ≡ stream_head k
head_more n k m is e = ap (λ l. l ++ face_bytes) e ∙ append_assoc section_bytes (faces_bytes n) face_bytes ∙ ap (λ l. section_bytes ++ l) (faces_last n) ∙ ap stream_head (sym is)

pub take_zeros : (k : ℕ) → k ≤ 3 → take k (replicate 3 0) ≡ zeros k
take_zeros k le = take-replicate k 3 0 le
