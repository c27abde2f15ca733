-- Lists of items that have keys: what is found of a key, by a test of sameness, and such lists with an item less; and, where keys are
-- numbers, lists that ascend by their keys, and such lists with an item more, less, or changed.
use Rattle.std.specs.Prelude.{◌≡◌, ℕ, ◌+◌, ◌≤◌, nat_lt, not, Bool, ◌==◌, if◌then◌else◌, List, [], ◌∷◌, ◌++◌, map, filter, find, Option, None}

module _ {X K : Type 0} (key : X → K) (same : K → K → Bool) where
  -- the item of a key
  abbrev pub item_of : K → List X → Option X
  item_of k xs = find (λ x. same (key x) k) xs

  -- the items but that of a key
  abbrev pub all_but : K → List X → List X
  all_but k xs = filter (λ x. not (same (key x) k)) xs

  -- no two items have the same key
  abbrev pub KeysDiffer : List X → Type 0
  KeysDiffer [] = Unit {0}
  KeysDiffer (x ∷ xs) = (item_of (key x) xs ≡ None) × KeysDiffer xs

module _ {X : Type 0} (key : X → ℕ) where
  -- the item at a key
  abbrev pub item_at : ℕ → List X → Option X
  item_at a xs = item_of key ◌==◌ a xs

  -- the keys
  abbrev pub keys : List X → List ℕ
  keys xs = map key xs

  -- strictly ascending keys, none below the bound
  abbrev pub AscendFrom : ℕ → List X → Type 0
  AscendFrom from [] = Unit {0}
  AscendFrom from (x ∷ xs) = (from ≤ key x) × AscendFrom (key x + 1) xs

  -- the items with this one, in the place of the one that has its key, between those below it and those above it
  abbrev pub added : X → List X → List X
  added x xs = filter (λ y. nat_lt (key y) (key x)) xs ++ x ∷ filter (λ y. nat_lt (key x) (key y)) xs

  -- the items without that of a key
  abbrev pub without : ℕ → List X → List X
  without a xs = all_but key ◌==◌ a xs

  -- an item, changed if it has this key
  abbrev pub changed_if : ℕ → (X → X) → X → X
  changed_if a change x = if key x == a then change x else x

  -- the items, with that of a key changed
  abbrev pub changed : ℕ → (X → X) → List X → List X
  changed a change xs = map (changed_if a change) xs
