-- How a pool keeps its addresses: one place for each, in order, and the places whose login ended by name and by end. No public
-- clause cites this module.
use Rattle.std.specs.Prelude.{◌≡◌, ℕ, ◌+◌, ◌-◌, ◌*◌, ◌<◌, ◌≤◌, ◌^◌, ◌==◌, ◌&&◌, ◌⊎◌, nat_lt, Bool, true, false, List, [], ◌∷◌, length, filter, Option, None, Some, is_some, is_none, slice_index_or, if◌then◌else◌}
use Rattle.sorted_lists.specs.Row.{has}
use Rattle.fab_base.specs.Fabric.{Past, may_have, QUARANTINE}
use Rattle.fab_base.specs.Keyed.{AscendFrom, item_at, without}
use Rattle.fc_addresses.specs.declared.pool.Holder.{Holder}
use Rattle.fc_addresses.specs.declared.released.Owner.{Owner}
use Rattle.fc_addresses.specs.declared.released.Release.{Release}

-- what a place says of its address
abbrev pub past_of : ℕ → Holder → Past
past_of a h = record { address = a; name = h.name; ended = h.ended }

-- the places of the addresses from a on
abbrev pub pasts_from : ℕ → List Holder → List Past
pasts_from a [] = []
pasts_from a (h ∷ more) = past_of a h ∷ pasts_from (a + 1) more

-- a login of the name may have the address next
abbrev pub may_follow : ℕ → ℕ → Holder → Bool
may_follow name now h = may_have name now h.name h.ended

-- a place that nobody had
abbrev pub nobody : Holder
nobody = record { name = None; ended = None }

-- nobody had the address yet
abbrev pub is_unused : Holder → Bool
is_unused h = is_none h.name

-- the row has the places of the addresses that nobody had
abbrev pub AreMarked : List ℕ → List Holder → Type 0
AreMarked row holders = (k : ℕ) (d : Holder) → k < length holders → has row k ≡ is_unused (slice_index_or holders k d)

-- ---- places whose login ended

-- its login ended
abbrev pub is_released : Holder → Bool
is_released h = is_some h.name && is_some h.ended

abbrev pub owner_by : ℕ → Option ℕ → Option ℕ → Option Owner
owner_by k None ended = None
owner_by k (Some name) None = None
owner_by k (Some name) (Some end) = Some (record { name = name; place = k })

-- the place, under its name
abbrev pub owner_of : ℕ → Holder → Option Owner
owner_of k h = owner_by k h.name h.ended

abbrev pub release_by : ℕ → Option ℕ → Option ℕ → Option Release
release_by k None ended = None
release_by k (Some name) None = None
release_by k (Some name) (Some end) = Some (record { end = end; place = k })

-- the place, under its end
abbrev pub release_of : ℕ → Holder → Option Release
release_of k h = release_by k h.name h.ended

-- by name, and then by place
abbrev pub owner_number : Owner → ℕ
owner_number o = o.name * 2 ^ 32 + o.place

-- by end, and then by place
abbrev pub end_number : Release → ℕ
end_number r = r.end * 2 ^ 32 + r.place

-- the place of the first from a name on, where it is that name's
abbrev pub owned_by : ℕ → Option Owner → Option ℕ
owned_by name None = None
owned_by name (Some o) = if o.name == name then Some o.place else None

-- the place of the first end, where the quarantine is over
abbrev pub over_at : ℕ → List Release → Option ℕ
over_at now [] = None
over_at now (r ∷ line) = if nat_lt QUARANTINE (now - r.end) then Some r.place else None

-- the list without an entry, where there is one
abbrev pub left : {D : Type 0} → (D → ℕ) → Option D → List D → List D
left rank None line = line
left rank (Some d) line = without rank (rank d) line

module _ {D : Type 0} (rank place : D → ℕ) (entry : ℕ → Holder → Option D) where
  -- The list has the entry of each place that has one, in ascending order, and no other.
  pub record IsLine (holders : List Holder) (line : List D) : Type 0 where
    pub ascending : AscendFrom rank 0 line
    pub told : (k : ℕ) (d : D) → k < length holders → entry k (slice_index_or holders k nobody) ≡ Some d → item_at rank (rank d) line ≡ Some d
    pub made : (n : ℕ) (d : D) → item_at rank n line ≡ Some d → (place d < length holders) × (entry (place d) (slice_index_or holders (place d) nobody) ≡ Some d)
    pub count : length line ≡ length (filter is_released holders)

abbrev pub owner_place : Owner → ℕ
owner_place o = o.place

abbrev pub release_place : Release → ℕ
release_place r = r.place

abbrev pub AreOwners : List Holder → List Owner → Type 0
AreOwners holders owners = IsLine owner_number owner_place owner_of holders owners

abbrev pub AreReleases : List Holder → List Release → Type 0
AreReleases holders line = IsLine end_number release_place release_of holders line

-- Each place is kept under what holds of it, and there is room for all of them.
pub record IsKept (first : ℕ) (holders : List Holder) (unused : List ℕ) (owners : List Owner) (line : List Release) (owner_capacity line_capacity : ℕ) : Type 0 where
  pub range : (k : ℕ) → k < length holders → first + k < 0xFF0000
  pub marked : AreMarked unused holders
  pub wide : length holders ≤ 64 * length unused
  pub are_owners : AreOwners holders owners
  pub are_releases : AreReleases holders line
  pub owner_room : length holders ≤ owner_capacity
  pub line_room : length holders ≤ line_capacity

-- a place of so many that the row has, or there is none
abbrev pub IsUnusedPlace : List ℕ → ℕ → Option ℕ → Type 0
IsUnusedPlace row places None = (k : ℕ) → k < places → has row k ≡ false
IsUnusedPlace row places (Some k) = (k < places) × (has row k ≡ true)

-- one of the two, where there is one
abbrev pub IsOneOf : Option ℕ → Option ℕ → Option ℕ → Type 0
IsOneOf one other None = (one ≡ None) × (other ≡ None)
IsOneOf one other (Some k) = (one ≡ Some k) ⊎ (other ≡ Some k)
