-- State changes that are added to a list, numbered by its length.
use Rattle.std.specs.Prelude.{ℕ, Bool, nat_le, ◌+◌, ◌++◌, List, length, map, flat_map}
use Rattle.std.specs.Option.{option_map_or}
use Rattle.fab_config.specs.Settings.{Settings}
use Rattle.fab_config.specs.declared.Activation.{Activation}
use Rattle.zone_rules.specs.Joined.{is_other}
use Rattle.fab_policy.specs.Outputs.{Notice, told}
use Rattle.fab_policy.specs.State.{LivePort, Tables, port_at}
use Rattle.fab_sending.specs.declared.message.Out.{Out}
use Rattle.fab_roster.specs.Reaching.{told_between}
use Rattle.fab_roster.specs.Roll.{Login}
use Rattle.fab_sending.specs.Messages.{at_moment, changes}
use Rattle.fab_sending.specs.Notices.{told_of_name}

-- a list of state changes with these behind it, where the first of the list has this number
abbrev pub with_changes : ℕ → ℕ → List Out → List Notice → List Out
with_changes moment first outs notices = outs ++ at_moment moment (changes (first + length outs) notices)

-- a watcher that is live at an address is told of another
abbrev pub told_at_address : List LivePort → ℕ → ℕ → Notice
told_at_address ports affected a = record { port = option_map_or (λ p. p.enode.port) (port_at a ports) 0; watcher = a; affected = affected }

-- what is told of each of these logins, but to the N_Ports of these addresses
abbrev pub told_of_logins : Settings → Tables → List ℕ → List Login → List Notice
told_of_logins c T but logins = flat_map (λ l. told_of_name c T but l.address l.name) logins

-- what changes of zones between two moments tell of each of these logins, but to the N_Ports of these addresses
abbrev pub told_of_login_changes : Settings → Tables → ℕ → ℕ → List ℕ → List Login → List Notice
told_of_login_changes c T before at but logins = flat_map (λ l. map (λ w. told w l.address) (told_between c T before at l.name but)) logins

-- an activation has come at one moment and not at the other
abbrev pub is_turned : ℕ → ℕ → Activation → Bool
is_turned since at a = is_other (nat_le a.moment since) (nat_le a.moment at)
