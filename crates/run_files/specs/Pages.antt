-- Pages: for each port, from the first on, the bytes that its output grows by next.
use Rattle.std.specs.Prelude.{ℕ, zero, suc, ◌<◌, nat_le, Bool, List, [], ◌∷◌, length, map, Vec}
use Rattle.std.specs.List.{list_any}
use Rattle.std.specs.declared.alloc.Global.{Global}

-- the bytes of each page
abbrev pub items_in : List (Vec ℕ Global) → List (List ℕ)
items_in pages = map (λ v. v.items) pages

-- the piece at a place, and nothing past the last
abbrev pub piece_at : List (List ℕ) → ℕ → List ℕ
piece_at [] q = []
piece_at (x ∷ xs) zero = x
piece_at (x ∷ xs) (suc q) = piece_at xs q

-- ---- when pages are written

-- the bytes from which on a page is written
abbrev pub FULL : ℕ
FULL = 65536

abbrev pub is_full : List ℕ → Bool
is_full page = nat_le FULL (length page)

-- one of these pages is full
abbrev pub has_full : List (Vec ℕ Global) → Bool
has_full pages = list_any (λ v. is_full v.items) pages

-- none is, of pages with these bytes
abbrev pub AreShort : List (List ℕ) → Type 0
AreShort pages = (q : ℕ) → length (piece_at pages q) < FULL
