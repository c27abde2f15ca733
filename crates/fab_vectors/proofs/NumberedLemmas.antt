-- Numbered lists: their length, two behind each other, and parts of them.
use Rattle.std.proofs.Common.{◌≡◌, ℕ, zero, suc, ◌+◌, ◌-◌, ◌%◌, ◌≤◌, List, [], ◌∷◌, ◌++◌, length, length-append, take, drop, refl, sym, ap, ◌∙◌, arith, append_assoc}
use Rattle.std.proofs.Math.Seq.{take-append_seam, drop-append_seam}
use Rattle.std.proofs.lemmas.List.{append-nil}
use Rattle.fc_frames.specs.Frame.{IsPayload}
use Rattle.fab_vectors.specs.Frames.{payload, payload_length, counted}
use Rattle.fab_vectors.specs.Names.{numbered}

pub length_numbered : {X : Type 0} (f : ℕ → X) (from count : ℕ) → length (numbered f from count) ≡ count
length_numbered f from zero = refl
length_numbered f from (suc count) = omega (arith, length_numbered f from count, length-append (numbered f from count) (f (count + from) ∷ []))

-- more of the same
numbered_join : {X : Type 0} (f : ℕ → X) (a n m t : ℕ) → t ≡ n + m → numbered f a n ++ numbered f (n + a) m ≡ numbered f a t
numbered_join f a n zero t is = let last : n ≡ t = omega arith in append-nil (numbered f a n) ∙ ap (numbered f a) last
numbered_join f a n (suc m) t is =
    let more = numbered_join f a n m (n + m) refl in
    let place : m + (n + a) ≡ n + m + a = omega arith in
    let last : suc (n + m) ≡ t = omega arith in
    sym (append_assoc (numbered f a n) (numbered f (n + a) m) (f (m + (n + a)) ∷ [])) ∙ (λ i. more i ++ f (place i) ∷ []) ∙ ap (numbered f a) last

-- the same items
numbered_same : {X : Type 0} (f g : ℕ → X) (a b : ℕ) → ((k : ℕ) → f (k + a) ≡ g (k + b)) → (n : ℕ) → numbered f a n ≡ numbered g b n
numbered_same f g a b same zero = refl
numbered_same f g a b same (suc n) = let rest = numbered_same f g a b same n in (λ i. rest i ++ same n i ∷ [])

-- a list in the midst of others
cut : {X : Type 0} (A B C : List X) → take (length B) (drop (length A) (A ++ B ++ C)) ≡ B
cut A B C = ap (λ l. take (length B) (drop (length A) l)) (append_assoc A B C) ∙ ap (take (length B)) (drop-append_seam A (B ++ C)) ∙ take-append_seam B C

part_of : {X : Type 0} (f : ℕ → X) (from count m : ℕ) → from + count ≤ m → take count (drop from (numbered f 0 m)) ≡ numbered f from count
part_of f from count m le =
    let rest = m - (from + count) in
    let A = numbered f 0 from in
    let B = numbered f (from + 0) count in
    let C = numbered f (from + count + 0) rest in
    let front = numbered_join f 0 from count (from + count) refl in
    let whole = numbered_join f 0 (from + count) rest m (omega arith) in
    let size_a = sym (length_numbered f 0 from) in
    let size_b = sym (length_numbered f (from + 0) count) in
    let start : from + 0 ≡ from = omega arith in
    ap (λ l. take count (drop from l)) (sym (ap (λ l. l ++ C) front ∙ whole)) ∙ (λ i. take (size_b i) (drop (size_a i) (A ++ B ++ C))) ∙ cut A B C ∙ ap (λ a. numbered f a count) start

-- ---- payloads

shift : (drawn k : ℕ) → (k + drawn % 256) % 256 ≡ (drawn + (k + 0)) % 256
shift drawn k = omega arith

pub counted_size : (l : List ℕ) (m : ℕ) → l ≡ counted m → length l ≡ m
unfolding counted
counted_size l m is = ap length is ∙ length_numbered (λ place. place % 256) 0 m

pub payload_is : (drawn m : ℕ) (l : List ℕ) → l ≡ counted m → drawn % 256 + payload_length drawn ≤ m → take (payload_length drawn) (drop (drawn % 256) l) ≡ payload drawn
unfolding counted payload
payload_is drawn m l is le =
    ap (λ x. take (payload_length drawn) (drop (drawn % 256) x)) is ∙ part_of (λ place. place % 256) (drawn % 256) (payload_length drawn) m le
    ∙ numbered_same (λ place. place % 256) (λ place. (drawn + place) % 256) (drawn % 256) 0 (shift drawn) (payload_length drawn)

payload_size : (drawn : ℕ) → length (payload drawn) ≡ payload_length drawn
unfolding payload
payload_size drawn = length_numbered (λ place. (drawn + place) % 256) 0 (payload_length drawn)

pub payload_fits : (drawn : ℕ) → IsPayload (payload drawn)
payload_fits drawn = let size = payload_size drawn in record { words = omega arith; most = omega arith }
