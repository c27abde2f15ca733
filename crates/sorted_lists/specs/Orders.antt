-- Records at places of a slab, and lists of places in the order of a number of their records.
use Rattle.std.specs.Prelude.{◌≡◌, ◌≢◌, ℕ, ◌+◌, ◌==◌, Bool, false, List, [], ◌∷◌, length, filter_map, IsSome, IsTrue}
use Rattle.std.specs.List.{list_any}
use Rattle.slab.specs.Slab.{Slab, get, slab_len}
use Rattle.fab_base.specs.Keyed.{AscendFrom}

-- a place is in a list
abbrev pub is_among : ℕ → List ℕ → Bool
is_among place places = list_any (λ q. q == place) places

module _ {T : Type 0} where
  -- the records at these places, one after another
  abbrev pub seen : Slab T → List ℕ → List T
  seen slab places = filter_map (get slab) places

  -- a record at each place
  abbrev pub AreThere : Slab T → List ℕ → Type 0
  AreThere slab [] = Unit {0}
  AreThere slab (place ∷ places) = IsSome (get slab place) × AreThere slab places

module _ {T : Type 0} (number : T → ℕ) where
  -- Each place has a record, and their numbers ascend strictly.
  pub record AreSorted (slab : Slab T) (places : List ℕ) : Type 0 where
    pub there : AreThere slab places
    pub ascending : AscendFrom number 0 (seen slab places)

  -- The places of all records, in the order of their numbers.
  pub record IsOrder (slab : Slab T) (places : List ℕ) : Type 0 where
    pub sorted : AreSorted slab places
    pub covers : (place : ℕ) → IsSome (get slab place) → IsTrue (is_among place places)
    pub count : length places ≡ slab_len slab

  -- The places of all records but that at this place.
  pub record IsOrderBut (but : ℕ) (slab : Slab T) (places : List ℕ) : Type 0 where
    pub sorted : AreSorted slab places
    pub here : IsSome (get slab but)
    pub absent : is_among but places ≡ false
    pub covers : (place : ℕ) → place ≢ but → IsSome (get slab place) → IsTrue (is_among place places)
    pub count : length places + 1 ≡ slab_len slab
