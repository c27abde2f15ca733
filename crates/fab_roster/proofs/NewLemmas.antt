-- The tables of a new roster.
use Rattle.std.proofs.Common.{◌≡◌, ℕ, zero, suc, ◌+◌, ◌*◌, ◌≤◌, false, List, [], None, IfSome, IsTrue, refl, sym, subst, arith}
use Rattle.std.proofs.lemmas.Bool.Decides.{nat_tests}
use Rattle.std.proofs.lemmas.List.Elements.{All-nil, All-cons}
use Rattle.fab_base.specs.Fabric.{Past, PORT_PERIOD}
use Rattle.fc_addresses.specs.Pool.{unused, is_held, AreEndedBy}
use Rattle.login_table.specs.Logins.{Logins}
use Rattle.keepalive_clock.specs.Clock.{VoiceClock}
use Rattle.name_server.specs.Registry.{Entry, Registrations, IsKept}
use Rattle.state_change.specs.Watchers.{Watching, is_asking}
use Rattle.state_change.specs.declared.watcher.Watcher.{Watcher}
use Rattle.fab_roster.specs.Agreement.{Agree}
use Rattle.fab_roster.specs.declared.roster.Roster.TheInside.{Inside}
use Rattle.fab_roster.proofs.Found.{true_false}

-- nobody holds an address
unheld : (a first count : ℕ) → is_held (unused first count) a ≡ false
unheld a first zero = refl
unheld a first (suc count) = grind (arith, nat_tests, unheld a (first + 1) count)

unended : (first count : ℕ) → AreEndedBy 0 (unused first count)
unended first zero = All-nil _
unended first (suc count) = All-cons (λ (p : Past). IfSome p.ended (λ end. end ≤ 0)) (record { address = first; name = None; ended = None }) (unused (first + 1) count) tt (unended (first + 1) count)

module _ (lowest count limit period : ℕ) where
  -- a roster before the first tick
  abbrev with : List Past → Logins → VoiceClock → Registrations → Watching → Inside
  with A s k r w = record {
    lowest = lowest;
    count = count;
    limit = limit;
    period = period;
    clock = None;
    pool = A;
    logins = s;
    voices = k;
    registry = r;
    watchers = w;
  }

  abbrev pub no_logins : Logins
  no_logins = record { limit = limit; logins = [] }

  abbrev pub no_voices : VoiceClock
  no_voices = record { node_period = period; port_period = PORT_PERIOD; room = 2 * limit; voices = [] }

  abbrev pub no_entries : Registrations
  no_entries = record { room = limit; entries = [] }

  abbrev pub no_watchers : Watching
  no_watchers = record { room = limit; watchers = [] }

  empty_agrees : Agree (with (unused lowest count) no_logins no_voices no_entries no_watchers)
  empty_agrees = record {
    logins = record { sound = record { ascending = tt; names = tt; bound = omega arith }; limit = refl; sizes = λ a l e. cc };
    voices = record {
      sound = record { differ = tt; bound = omega arith };
      node_period = refl;
      port_period = refl;
      room = refl;
      nodes = λ a l e. cc;
      ports = λ a l e. cc;
      speak = λ v h. absurd (true_false (sym h));
    };
    entries = record {
      sound = record { ascending = tt; kept = All-nil (λ (e : Entry). IsKept e.values); bound = omega arith };
      room = refl;
      known = λ a l e. cc;
      only = λ a h. absurd (true_false (sym h));
    };
    watchers = record {
      sound = record { ascending = tt; functions = All-nil (λ (w : Watcher). IsTrue (is_asking w.function)); bound = omega arith };
      room = refl;
      known = λ a x e. cc;
    };
    pool = record { held = λ a. unheld a lowest count; places = refl; ended = unended lowest count; range = omega arith };
  }

  pub new_agrees : (A : List Past) (s : Logins) (k : VoiceClock) (r : Registrations) (w : Watching) →
      A ≡ unused lowest count → s ≡ no_logins → k ≡ no_voices → r ≡ no_entries → w ≡ no_watchers → Agree (with A s k r w)
  new_agrees A s k r w e1 e2 e3 e4 e5 =
      let same : with A s k r w ≡ with (unused lowest count) no_logins no_voices no_entries no_watchers = cc in
      subst Agree (sym same) empty_agrees
