-- Whom a state change reaches, and what an N_Port may see, by the zones of a configuration.
use Rattle.std.specs.Prelude.{ℕ, ◌&&◌, ◌||◌, ◌==◌, not, Bool, List, filter, Option, Some, None}
use Rattle.ct_messages.specs.Ask.{Ask, PortNameOf, NodeNameOf, TypesOf, FeaturesOf}
use Rattle.fab_config.specs.Settings.{Settings}
use Rattle.login_table.specs.declared.login.Login.{Login}
use Rattle.name_server.specs.declared.seen.SeenPort.{SeenPort}
use Rattle.state_change.specs.Watchers.{is_changed, is_recipient}
use Rattle.state_change.specs.declared.watcher.Watcher.{Watcher}
use Rattle.zone_rules.specs.Joined as zones
use Rattle.zone_rules.specs.Joined.{contains}
use Rattle.zone_rules.specs.Rules.{ZoneRules}
use Rattle.fab_policy.specs.Outputs.{differs, is_watcher}
use Rattle.fab_policy.specs.Queries.{fport}
use Rattle.fab_policy.specs.Rules.{joined}
use Rattle.fab_policy.specs.State.{LivePort, Tables}
use Rattle.fab_roster.specs.declared.reaching.Reach.{Reach}
use Rattle.fab_roster.specs.declared.reaching.Reach.TheVariants.{Joined, Changed}

-- the zones of a configuration
abbrev pub zones_of : Settings → ZoneRules
zones_of c = record { zones = c.zones; sets = c.sets; activations = c.activations }

-- the watchers that are joined with a name at the clock, but for those of these addresses
abbrev pub told_at : Settings → Tables → ℕ → List ℕ → List LivePort
told_at c T name but = filter (λ w. not (contains w.address but) && is_watcher w && joined c T w.name name) T.ports

-- the watchers whose joining with a name is another at one moment than at the other, but for those of these addresses
abbrev pub told_between : Settings → Tables → ℕ → ℕ → ℕ → List ℕ → List LivePort
told_between c T before at name but = filter (λ w. not (contains w.address but) && is_watcher w && differs c before at w.name name) T.ports

-- the watchers that a change reaches on account of a name
abbrev pub is_reached : ZoneRules → ℕ → Reach → Watcher → Bool
is_reached z name (Joined at) w = is_recipient z at name w
is_reached z name (Changed before at) w = is_changed z before at name w

-- ---- what an N_Port may see

-- a login as an asker sees it
abbrev pub seen_port : Settings → Login → SeenPort
seen_port c l = record { address = l.address; name = l.name; fabric_port = fport c l.enode.port }

-- a login may see another at a moment: it is the same, or they are joined
abbrev pub may_see : ZoneRules → ℕ → Login → Login → Bool
may_see z at asker l = l.address == asker.address || zones.joined z.zones z.sets z.activations at l.name asker.name

-- the address of the N_Port that a query of one asks for
abbrev pub asked_of : Ask → Option ℕ
asked_of (PortNameOf a) = Some a
asked_of (NodeNameOf a) = Some a
asked_of (TypesOf a) = Some a
asked_of (FeaturesOf a) = Some a
asked_of _ = None
