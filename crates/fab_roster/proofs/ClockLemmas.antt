-- The tables when the clock moves on.
use Rattle.std.proofs.Common.{ℕ, ◌≤◌, ◌<◌, ◌^◌, Option, Some, None, IfSome, unwrap_or, arith}
use Rattle.std.proofs.lemmas.List.Elements.{All-weaker}
use Rattle.fab_roster.specs.Agreement.{Agree}
use Rattle.fab_roster.specs.declared.roster.Roster.TheInside.{Inside}

later : (t now : ℕ) → t ≤ now → (o : Option ℕ) → IfSome o (λ e. e ≤ t) → IfSome o (λ e. e ≤ now)
later t now le None h = tt
later t now le (Some e) h = omega (arith, h, le)

at_clock : (clock : Option ℕ) (now : ℕ) → IfSome clock (λ x. x ≤ now) → unwrap_or clock 0 ≤ now
at_clock None now h = omega arith
at_clock (Some x) now h = h

pub clock_keeps : {t : Inside} (now : ℕ) → Agree t → IfSome t.clock (λ x. x ≤ now) → now < 2 ^ 63 → Agree (record t { clock = Some now })
clock_keeps {t} now agree le range = record {
  logins = agree.logins;
  voices = agree.voices;
  entries = agree.entries;
  watchers = agree.watchers;
  pool = record {
    held = agree.pool.held;
    places = agree.pool.places;
    ended = All-weaker (λ p. IfSome p.ended (λ e. e ≤ unwrap_or t.clock 0)) (λ p. IfSome p.ended (λ e. e ≤ now)) (λ p g. later (unwrap_or t.clock 0) now (at_clock t.clock now le) p.ended g) t.pool agree.pool.ended;
    range = range;
  };
}
