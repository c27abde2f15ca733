-- The N_Ports of a roll ascend, and a walk over the logins is a walk over them.
use Rattle.std.proofs.Common.{◌≡◌, ℕ, ◌+◌, ◌&&◌, nat_le, Bool, true, List, [], ◌∷◌, map, find, Some, option_map, ap, sym, ◌∙◌, refl, arith}
use Rattle.std.proofs.Math.Bool.{and-true}
use Rattle.std.proofs.lemmas.Bool.Decides.{nat_tests}
use Rattle.fab_base.specs.Keyed.{AscendFrom}
use Rattle.login_table.specs.Logins as logins
use Rattle.login_table.specs.Logins.{Logins, next_of}
use Rattle.login_table.specs.declared.login.Login.{Login}
use Rattle.fab_policy.specs.State.{LivePort}
use Rattle.fab_roster.specs.Changes.{IsSoundRoll}
use Rattle.fab_roster.specs.Roll.{Roll, live_of}
use Rattle.fab_roster.specs.declared.roster.Roster.TheInside.{Inside}
use Rattle.fab_roster.proofs.Walks.{IsNext, first_key, next_some}

-- the key of an N_Port
abbrev pub address : LivePort → ℕ
address p = p.address

pub ports_ascend : (t : Inside) (from : ℕ) (ls : List Login) → AscendFrom logins.address_of from ls → AscendFrom address from (map (live_of t) ls)
ports_ascend t from [] ascend = tt
ports_ascend t from (l ∷ ls) ascend = (ascend.0, ports_ascend t (l.address + 1) ls ascend.1)

-- the next N_Port of a sound roll
pub next_port_of : (R : Roll) (from a : ℕ) → IsSoundRoll R → Some a ≡ first_key address from R.tables.ports → IsNext address from R.tables.ports a
next_port_of R from a sound is = next_some address R.lowest from a R.tables.ports sound.ascending.0 is

-- ---- a walk over the logins

find-same : {X : Type 0} (p q : X → Bool) → ((x : X) → p x ≡ q x) → (xs : List X) → find p xs ≡ find q xs
find-same p q alike [] = refl
find-same p q alike (x ∷ xs) = grind (arith, nat_tests, alike x, find-same p q alike xs)

pub next_is_first : (from : ℕ) (ls : List Login) → next_of (λ l. true) from ls ≡ first_key logins.address_of from ls
next_is_first from ls = ap (option_map logins.address_of) (find-same (λ (l : Login). nat_le from l.address && true) (λ (l : Login). nat_le from l.address) (λ l. and-true (nat_le from l.address)) ls)

pub next_login : (from a : ℕ) (t : Logins) → logins.IsSound t → Some a ≡ next_of (λ l. true) from t.logins → IsNext logins.address_of from t.logins a
next_login from a t sound is = next_some logins.address_of 0 from a t.logins sound.ascending (is ∙ next_is_first from t.logins)

-- the same where the walk answers the login itself
pub next_item : (from : ℕ) (l : Login) (t : Logins) → logins.IsSound t → Some l ≡ find (λ (x : Login). nat_le from x.address) t.logins → IsNext logins.address_of from t.logins l.address
next_item from l t sound is = next_some logins.address_of 0 from l.address t.logins sound.ascending (ap (option_map logins.address_of) is)

pub item_found : (from : ℕ) (l : Login) (t : Logins) → logins.IsSound t → Some l ≡ find (λ (x : Login). nat_le from x.address) t.logins → Some l ≡ logins.login_at l.address t.logins
item_found from l t sound is = let n = next_item from l t sound is in is ∙ n.first ∙ sym n.found
