-- What a contract sees of a pool: its addresses in ascending order, each with the name that had it last and when that login ended.
use Rattle.std.specs.Prelude.{ℕ, zero, suc, ◌+◌, ◌≤◌, Bool, false, ◌==◌, ◌&&◌, if◌then◌else◌, List, [], ◌∷◌, map, find, Some, None, is_some, is_none, IfSome, ◌≡◌, ◌<◌, option_map}
use Rattle.std.specs.Option.{option_map_or}
use Rattle.std.specs.List.{All}
use Rattle.fab_base.specs.Fabric.{Past, past_at, may_have}

-- ---- questions

abbrev pub is_open : ℕ → ℕ → Past → Bool
is_open name now p = may_have name now p.name p.ended

-- the address is one of the pool, and a login of the name may have it
abbrev pub is_free : List Past → ℕ → ℕ → ℕ → Bool
is_free pool name now a = option_map_or (is_open name now) (past_at a pool) false

-- a login of the name may have some address
abbrev pub has_free : List Past → ℕ → ℕ → Bool
has_free pool name now = is_some (find (is_open name now) pool)

-- a login holds the address
abbrev pub is_held : List Past → ℕ → Bool
is_held pool a = option_map_or (λ p. is_some p.name && is_none p.ended) (past_at a pool) false

-- no login of these addresses ended after this moment
abbrev pub AreEndedBy : ℕ → List Past → Type 0
AreEndedBy now pool = All (λ p. IfSome p.ended (λ end. end ≤ now)) pool

-- ---- what holds of every pool

-- the addresses follow one another from this one on
abbrev pub FollowFrom : ℕ → List Past → Type 0
FollowFrom first [] = Unit {0}
FollowFrom first (p ∷ pool) = (p.address ≡ first) × FollowFrom (first + 1) pool

-- The addresses follow one another, all below those that the fabric keeps for itself.
pub record IsSound (pool : List Past) : Type 0 where
  pub first : ℕ
  pub places : FollowFrom first pool
  pub range : All (λ p. p.address < 0xFF0000) pool

-- ---- changes

-- count addresses from first on, which nobody had
abbrev pub unused : ℕ → ℕ → List Past
unused first zero = []
unused first (suc count) = record { address = first; name = None; ended = None } ∷ unused (first + 1) count

-- the past of an address that nobody had yet
abbrev pub never_had : ℕ → Past
never_had a = record { address = a; name = None; ended = None }

-- the past of an address that a login of the name holds
abbrev pub held : ℕ → ℕ → Past
held a name = record { address = a; name = Some name; ended = None }

-- the past whose login ended now
abbrev pub ended_at : ℕ → Past → Past
ended_at now p = record { address = p.address; name = p.name; ended = Some now }

-- a login of the name holds the address; the other addresses stay
abbrev pub taken : List Past → ℕ → ℕ → List Past
taken pool a name = map (λ p. if p.address == a then held p.address name else p) pool

-- the login of the address ended now; the other addresses stay
abbrev pub released : List Past → ℕ → ℕ → List Past
released pool a now = map (λ p. if p.address == a then ended_at now p else p) pool

-- a login of the name holds the address, and every other has its past
abbrev pub HoldsAddress : ℕ → ℕ → List Past → List Past → Type 0
HoldsAddress a name old new = (b : ℕ) → past_at b new ≡ (if a == b then Some (held a name) else past_at b old)

-- the login of the address ended now, and every other address has its past
abbrev pub EndsLogin : ℕ → ℕ → List Past → List Past → Type 0
EndsLogin a now old new = (b : ℕ) → past_at b new ≡ (if a == b then option_map (ended_at now) (past_at b old) else past_at b old)

-- a login of the name had the address until then, and every other address has its past
abbrev pub HadAddress : ℕ → ℕ → ℕ → List Past → List Past → Type 0
HadAddress a name end old new = (b : ℕ) → past_at b new ≡ (if a == b then Some (ended_at end (held a name)) else past_at b old)

-- the addresses of a pool
abbrev pub addresses : List Past → List ℕ
addresses pool = map (λ p. p.address) pool
