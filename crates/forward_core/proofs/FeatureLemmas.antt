-- The features of all types, written one after another.
use Rattle.std.proofs.Common.{◌≡◌, ℕ, zero, suc, ◌+◌, ◌<◌, List, [], ◌∷◌, ◌++◌, length, take, drop, set, get_or, refl, sym, ◌∙◌, ap, arith}
use Rattle.fab_pieces.specs.Seam.{AreBelow}

-- one of them is written in the place of what stood there
step : {X : Type 0} (i : ℕ) (xs ys : List X) (d : X) → i < length xs → length xs ≡ length ys → set (take i xs ++ drop i ys) i (get_or xs i d) ≡ take (suc i) xs ++ drop (suc i) ys
step i [] ys d lt same = absurd (omega (arith, lt))
step i (x ∷ xs) [] d lt same = absurd (omega (arith, same))
step zero (x ∷ xs) (y ∷ ys) d lt same = refl
step (suc i) (x ∷ xs) (y ∷ ys) d lt same = ap (λ l. x ∷ l) (step i xs ys d (omega (arith, lt)) (omega (arith, same)))

all_taken : {X : Type 0} (xs ys : List X) → length xs ≡ length ys → take (length xs) xs ++ drop (length xs) ys ≡ xs
all_taken [] [] same = refl
all_taken [] (y ∷ ys) same = absurd (omega (arith, same))
all_taken (x ∷ xs) [] same = absurd (omega (arith, same))
all_taken (x ∷ xs) (y ∷ ys) same = ap (λ l. x ∷ l) (all_taken xs ys (omega (arith, same)))

pub below_at : (most : ℕ) (xs : List ℕ) (i d : ℕ) → AreBelow most xs → i < length xs → get_or xs i d < most
below_at most [] i d low lt = absurd (omega (arith, lt))
below_at most (x ∷ xs) zero d low lt = low.0
below_at most (x ∷ xs) (suc i) d low lt = below_at most xs i d low.1 (omega (arith, lt))

pub one_more : {X : Type 0} (i : ℕ) (xs ys : List X) (d : X) → i < length xs → length xs ≡ length ys → set (take i xs ++ drop i ys) i (get_or xs i d) ≡ take (i + 1) xs ++ drop (i + 1) ys
one_more i xs ys d lt same = step i xs ys d lt same ∙ (let e : suc i ≡ i + 1 = omega arith in ap (λ n. take n xs ++ drop n ys) e)

pub all_of : {X : Type 0} (n : ℕ) (xs ys : List X) → length xs ≡ n → length ys ≡ n → take n xs ++ drop n ys ≡ xs
all_of n xs ys is same = ap (λ k. take k xs ++ drop k ys) (sym is) ∙ all_taken xs ys (is ∙ sym same)

pub none_of : {X : Type 0} (xs ys : List X) → ys ≡ take 0 xs ++ drop 0 ys
none_of xs ys = refl
