-- Pages, by their places.
use Rattle.std.proofs.Common.{◌≡◌, ◌≢◌, ℕ, zero, suc, ◌+◌, ◌<◌, ◌≤◌, false, List, [], ◌∷◌, ◌++◌, length, get_or, refl, ap, sym, ◌∙◌, subst, arith, lit<}
use Rattle.std.specs.Prelude.{Vec, slice_set, replicate}
use Rattle.std.specs.declared.alloc.Global.{Global}
use Rattle.std.proofs.lemmas.Bool.{or_parts, leb-false}
use Rattle.run_files.specs.Pages.{items_in, piece_at, FULL, is_full, has_full, AreShort}

pub length-items : (l : List (Vec ℕ Global)) → length (items_in l) ≡ length l
length-items [] = refl
length-items (v ∷ l) = ap suc (length-items l)

-- the piece at a place of the code's list
pub piece-item : (l : List (Vec ℕ Global)) (i : ℕ) (v : Vec ℕ Global) → i < length l → v ≡ get_or l i v → v.items ≡ piece_at (items_in l) i
piece-item [] i v lt is = absurd (omega arith)
piece-item (x ∷ l) zero v lt is = ap (λ (y : Vec ℕ Global). y.items) is
piece-item (x ∷ l) (suc i) v lt is = piece-item l i v (omega arith) is

pub length_set : (l : List (Vec ℕ Global)) (k : ℕ) (v : Vec ℕ Global) → length (items_in (slice_set l k v)) ≡ length (items_in l)
length_set [] k v = refl
length_set (x ∷ l) zero v = refl
length_set (x ∷ l) (suc k) v = ap suc (length_set l k v)

pub set_page : (l : List (Vec ℕ Global)) (k : ℕ) (v : Vec ℕ Global) → k < length l → piece_at (items_in (slice_set l k v)) k ≡ v.items
set_page [] k v lt = absurd (omega (arith, lt))
set_page (x ∷ l) zero v lt = refl
set_page (x ∷ l) (suc k) v lt = set_page l k v (omega (arith, lt))

pub own_page : (l : List (Vec ℕ Global)) (k : ℕ) (v w : Vec ℕ Global) (bytes : List ℕ) → k < length l → w ≡ get_or l k w → v.items ≡ w.items ++ bytes → piece_at (items_in (slice_set l k v)) k ≡ piece_at (items_in l) k ++ bytes
own_page l k v w bytes lt is e = set_page l k v lt ∙ e ∙ ap (λ x. x ++ bytes) (piece-item l k w lt is)

pub other_page : (l : List (Vec ℕ Global)) (k q : ℕ) (v : Vec ℕ Global) → q ≢ k → piece_at (items_in (slice_set l k v)) q ≡ piece_at (items_in l) q
other_page [] k q v ne = refl
other_page (x ∷ l) zero zero v ne = absurd (ne refl)
other_page (x ∷ l) zero (suc q) v ne = refl
other_page (x ∷ l) (suc k) zero v ne = refl
other_page (x ∷ l) (suc k) (suc q) v ne = other_page l k q v (λ e. ne (ap suc e))

pub no_page : (l : List (Vec ℕ Global)) (q : ℕ) → length l ≤ q → piece_at (items_in l) q ≡ []
no_page [] q le = refl
no_page (x ∷ l) zero le = absurd (omega (arith, le))
no_page (x ∷ l) (suc q) le = no_page l q (omega (arith, le))

-- ---- new pages

pub pushed_page : (l : List (Vec ℕ Global)) (v : Vec ℕ Global) → items_in (l ++ v ∷ []) ≡ items_in l ++ v.items ∷ []
pushed_page [] v = refl
pushed_page (x ∷ l) v = ap (λ m. x.items ∷ m) (pushed_page l v)

pub page_of : (x : List ℕ) (n q : ℕ) → q < n → piece_at (replicate n x) q ≡ x
page_of x zero q lt = absurd (omega (arith, lt))
page_of x (suc n) zero lt = refl
page_of x (suc n) (suc q) lt = page_of x n q (omega (arith, lt))

pub length-pages : (x : List ℕ) (n : ℕ) → length (replicate n x) ≡ n
length-pages x zero = refl
length-pages x (suc n) = ap suc (length-pages x n)

pub one_page : (n : ℕ) (x : List ℕ) → replicate n x ++ x ∷ [] ≡ replicate (n + 1) x
one_page zero x = refl
one_page (suc n) x = ap (λ l. x ∷ l) (one_page n x) ∙ ap (λ (m : ℕ). replicate m x) (let e : suc (n + 1) ≡ suc n + 1 = omega arith in e)

-- ---- pages below the bound

pub short : (page : List ℕ) → is_full page ≡ false → length page < FULL
short page e = let less = leb-false FULL (length page) e in omega (arith, less)

pub short_pages : (pages : List (Vec ℕ Global)) → has_full pages ≡ false → AreShort (items_in pages)
short_pages [] e q = lit< tt
short_pages (v ∷ pages) e zero = short v.items (or_parts _ _ e).0
short_pages (v ∷ pages) e (suc q) = short_pages pages (or_parts _ _ e).1 q

pub short_empty : (page : List ℕ) → page ≡ [] → length page < FULL
short_empty page none = subst (λ (l : List ℕ). length l < FULL) (sym none) (lit< tt)

pub short_nothings : (pages : List (List ℕ)) → ((q : ℕ) → piece_at pages q ≡ []) → AreShort pages
short_nothings pages none q = short_empty (piece_at pages q) (none q)
