-- What a contract sees of a login table: how many logins it may hold, and the logins in ascending order of their addresses.
use Rattle.std.specs.Prelude.{ℕ, ◌==◌, ◌≤◌, nat_le, Bool, ◌&&◌, List, length, find, Option, option_map}
use Rattle.fab_base.specs.Keyed as keyed
use Rattle.login_table.specs.declared.login.Login.{Login}

pub record Logins : Type 0 where
  pub limit : ℕ
  pub logins : List Login

-- the key of a login, and its other key
abbrev pub address_of : Login → ℕ
address_of l = l.address

abbrev pub name_of : Login → ℕ
name_of l = l.name

-- ---- questions

-- the login of an address
abbrev pub login_at : ℕ → List Login → Option Login
login_at a logins = keyed.item_at address_of a logins

-- the login of a port name
abbrev pub named : ℕ → List Login → Option Login
named name logins = keyed.item_at name_of name logins

-- the least address from a bound on, of the logins that pass
abbrev pub next_of : (Login → Bool) → ℕ → List Login → Option ℕ
next_of passes from logins = option_map address_of (find (λ l. nat_le from l.address && passes l) logins)

-- ---- changes

-- the logins with one more, between those below it and those above it
abbrev pub added : Login → List Login → List Login
added login logins = keyed.added address_of login logins

-- a login with another receive size
abbrev pub with_size : Option ℕ → Login → Login
with_size size l = record l { server_size = size }

-- a login with another receive size, if its address is this one
abbrev pub sized : ℕ → Option ℕ → Login → Login
sized a size l = keyed.changed_if address_of a (with_size size) l

-- the login of this address has the receive size; the others stay
abbrev pub with_server : ℕ → Option ℕ → List Login → List Login
with_server a size logins = keyed.changed address_of a (with_size size) logins

-- the logins without that of this address
abbrev pub without : ℕ → List Login → List Login
without a logins = keyed.without address_of a logins

-- ---- what holds of every table

-- strictly ascending addresses, none below the bound
abbrev pub AscendFrom : ℕ → List Login → Type 0
AscendFrom from logins = keyed.AscendFrom address_of from logins

-- no two logins have one port name
abbrev pub NamesDiffer : List Login → Type 0
NamesDiffer logins = keyed.KeysDiffer name_of ◌==◌ logins

-- The logins ascend, so no address comes twice; no name comes twice; and there are at most `limit`.
pub record IsSound (t : Logins) : Type 0 where
  pub ascending : AscendFrom 0 t.logins
  pub names : NamesDiffer t.logins
  pub bound : length t.logins ≤ t.limit
