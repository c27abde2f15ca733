-- What a journal says of registrations is what the name server keeps: its table says both.
use Rattle.std.specs.Prelude.{◌≡◌, ℕ, true, length, Some}
use Rattle.ct_messages.specs.Ct.{Ask}
use Rattle.ct_messages.specs.CanWrite.{HasByte}
use Rattle.ct_messages.specs.Server.{first_values, is_registration}
use Rattle.ct_messages.specs.Server as server
use Rattle.fab_policy.specs.Logins.{NPort}
use Rattle.fab_policy.specs.Registered.{registration}
use Rattle.fab_policy.specs.Journal.{Journal}
use Rattle.fab_policy.specs.State.{LivePort, live_port}
use Rattle.fab_policy.specs.Steps.{fresh, touched}
use Rattle.fab_policy.specs.declared.event.Event.{Event}

-- An entry that registers something for an address gives its N_Port the values that the table gives.
abbrev pub RegistrationsFit : Type 0
RegistrationsFit = (at a : ℕ) (e : Event) (p : LivePort) (ask : Ask) → registration a e ≡ Some ask → is_registration ask ≡ true → HasByte ask →
    length p.values.features ≡ 256 → (touched at a e p).values ≡ server.after p.node ask p.values

-- An N_Port that has just logged in has the values that the table gives a login.
abbrev pub LoginsFit : Type 0
LoginsFit = (at a : ℕ) (p : NPort) → (fresh at a p).values ≡ first_values p.node

-- A live N_Port has the features of the types 0 to 255.
abbrev pub FeaturesAreAll : Type 0
FeaturesAreAll = (J : Journal) (a : ℕ) (p : LivePort) → live_port a J ≡ Some p → length p.values.features ≡ 256
