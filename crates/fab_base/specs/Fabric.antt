-- Rules of a fabric that its journals and its tables say alike: who an ENode is, which MAC comes with an address, which of
-- two moments is earlier, when a voice is silent, which addresses a name may have, and who is told of changes.
use Rattle.std.specs.Prelude.{ℕ, ◌-◌, ◌*◌, Bool, true, false, ◌==◌, nat_lt, ◌&&◌, ◌||◌, min, List, ◌++◌, Option, None, Some}
use Rattle.std.specs.Str.{bytes_eq}
use Rattle.fab_base.specs.Keyed.{item_at}
use Rattle.fab_base.specs.Layout.{spelled}
use Rattle.fab_base.specs.declared.values.Enode.{Enode}

-- ---- ENodes (FC-BB-5, "ENode")

-- an ENode is a MAC behind a port
abbrev pub same_enode : Enode → Enode → Bool
same_enode x y = x.port == y.port && bytes_eq x.mac y.mac

-- ---- MACs that a fabric provides (FC-BB-5, "Fabric Provided MAC Address (FPMA)")

-- the FC-MAP in the upper 24 bits, the N_Port_ID in the lower
abbrev pub fpma : ℕ → ℕ → List ℕ
fpma fc_map address = spelled 3 fc_map ++ spelled 3 address

-- ---- moments

-- the earlier of two moments, either of which may be missing
abbrev pub earlier : Option ℕ → Option ℕ → Option ℕ
earlier None other = other
earlier (Some one) None = Some one
earlier (Some one) (Some other) = Some (min one other)

-- ---- silence (FC-BB-5, "FIP keep alive")

-- More than two and a half periods passed since then.
abbrev pub is_silent : ℕ → ℕ → ℕ → Bool
is_silent period heard m = nat_lt (5 * period) (2 * (m - heard))

-- the period of the keep alives of an N_Port, in milliseconds
abbrev pub PORT_PERIOD : ℕ
PORT_PERIOD = 90000

-- ---- addresses (FC-LS-2, "FLOGI" and "FDISC"; the quarantine is this project's profile)

-- The past of an address of the pool: the port name that had it last, and the moment at which that login ended. An address
-- that nobody had yet has no name, and one that a login holds has a name and no end.
pub record Past : Type 0 where
  pub address : ℕ
  pub name : Option ℕ
  pub ended : Option ℕ

abbrev pub past_at : ℕ → List Past → Option Past
past_at a past = item_at (λ (p : Past). p.address) a past

-- how many milliseconds an address is kept from other names after its login ended
abbrev pub QUARANTINE : ℕ
QUARANTINE = 10000

-- Nobody had the address yet; or no login holds it, and the name had it last or the quarantine is over.
abbrev pub may_have : ℕ → ℕ → Option ℕ → Option ℕ → Bool
may_have name now None ended = true
may_have name now (Some last) None = false
may_have name now (Some last) (Some end) = last == name || nat_lt QUARANTINE (now - end)

-- ---- state changes (FC-LS-2, "SCR", Registration Function)

-- the function asks for the changes that the fabric detects: 1 for these alone, 3 for these and others
abbrev pub asks_fabric : ℕ → Bool
asks_fabric f = f == 1 || f == 3
