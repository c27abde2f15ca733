-- Moments from which on something is owed. No public clause cites this module.
use Rattle.std.specs.Prelude.{ℕ, ◌<◌, Bool, false, nat_le, Option, IfSome}
use Rattle.std.specs.Option.{option_map_or}

-- a moment comes at the one from which on something is owed, or later, if there is one
abbrev pub reaches : Option ℕ → ℕ → Bool
reaches from k = option_map_or (λ m. nat_le m k) from false

-- a moment, if there is one, is below a bound
abbrev pub IsWithin : ℕ → Option ℕ → Type 0
IsWithin most moment = IfSome moment (λ m. m < most)
