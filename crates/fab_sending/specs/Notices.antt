-- The state changes of an entry, by the tables before it alone.
use Rattle.std.specs.Prelude.{ℕ, ◌&&◌, not, List, [], ◌∷◌, ◌++◌, map, filter, flat_map, Some, None, option_to_list}
use Rattle.fab_base.specs.Fabric.{same_enode}
use Rattle.fab_base.specs.declared.values.Caught.{Caught}
use Rattle.fab_config.specs.Settings.{Settings}
use Rattle.ct_messages.specs.Server as server
use Rattle.heard_frames.specs.Heard.{asked, ask_of, is_flogi, s_id, sender}
use Rattle.fab_policy.specs.Outputs.{Notice, told}
use Rattle.fab_policy.specs.State.{LivePort, Tables, addresses, is_overdue, overdue, port_at}
use Rattle.fab_policy.specs.declared.verdict.Verdict.{Verdict}
use Rattle.fab_policy.specs.declared.verdict.Verdict.TheVariants.{Granted, Logout, Registered}
use Rattle.fab_roster.specs.Reaching.{told_at, told_between}

-- the watchers that are joined with a name are told of an address, but for those of these addresses
abbrev pub told_of_name : Settings → Tables → List ℕ → ℕ → ℕ → List Notice
told_of_name c T but address name = map (λ w. told w address) (told_at c T name but)

-- the same of each N_Port of a list
abbrev pub told_of_each : Settings → Tables → List ℕ → List LivePort → List Notice
told_of_each c T but ports = flat_map (λ p. told_of_name c T but p.address p.name) ports

-- the watchers whose joining with an N_Port changes between two moments are told of it
abbrev pub told_of_change : Settings → Tables → ℕ → ℕ → List ℕ → LivePort → List Notice
told_of_change c T before at but p = map (λ w. told w p.address) (told_between c T before at p.name but)

-- the N_Ports that aren't overdue at a moment
abbrev pub staying_at : Settings → Tables → ℕ → List LivePort
staying_at c T m = filter (λ p. not (is_overdue c m p)) T.ports

-- what changes of zones tell, up to a moment from the clock on
abbrev pub told_of_changes : Settings → Tables → ℕ → List ℕ → List Notice
told_of_changes c T m but =
    elim T.clock [ None ↦ [] | Some t ↦ flat_map (told_of_change c T t m but) (staying_at c T m) ]

-- A tick tells of the N_Ports that are overdue, and then of changes of zones; those that are overdue are told nothing.
abbrev pub notices_of_tick : Settings → Tables → ℕ → List Notice
notices_of_tick c T m =
    told_of_each c T (addresses (overdue c T m)) (overdue c T m) ++ told_of_changes c T m (addresses (overdue c T m))

-- the N_Ports that a granted request ends: those of its ENode, where it is a FLOGI
abbrev pub ended_by_grant : Tables → ℕ → Caught → List LivePort
ended_by_grant T port caught = filter (λ p. same_enode p.enode (sender port caught) && is_flogi caught) T.ports

-- the N_Port of an address, where a registration changes its types or features
abbrev pub changed_at : Tables → Caught → List LivePort
changed_at T caught =
    filter (λ p. server.has_changed p.values (server.after p.node (ask_of caught) p.values)) (option_to_list (port_at (s_id caught) T.ports))

-- A frame tells of the logins that it ends, of the one that it grants, or of the one whose types or features it changes.
abbrev pub notices_of_frame : Settings → Tables → ℕ → Caught → Verdict → List Notice
notices_of_frame c T port caught (Granted a) =
    told_of_each c T (addresses (ended_by_grant T port caught)) (ended_by_grant T port caught)
    ++ told_of_name c T (addresses (ended_by_grant T port caught)) a (asked caught).port_name
notices_of_frame c T port caught (Logout a) = told_of_each c T (a ∷ []) (option_to_list (port_at a T.ports))
notices_of_frame c T port caught Registered = told_of_each c T [] (changed_at T caught)
notices_of_frame c T port caught _ = []
