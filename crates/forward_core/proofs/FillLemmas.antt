-- An empty roll gets the clock of a seam that fits, the pasts of its addresses, and its N_Ports.
use Rattle.std.proofs.Common.{◌≡◌, ℕ, ◌+◌, ◌*◌, ◌<◌, ◌≤◌, ◌^◌, List, [], ◌∷◌, Option, Some, None, IfSome, is_some, unwrap_or, refl, sym, ◌∙◌, ap, subst, arith}
use Rattle.std.specs.List.{AllByRecursion}
use Rattle.fab_base.specs.Fabric.{Past}
use Rattle.fab_config.specs.Settings.{Settings}
use Rattle.fab_policy.specs.Outputs.{State}
use Rattle.fab_policy.specs.State.{Tables, now_of}
use Rattle.fab_pieces.specs.Seam.{Seam}
use Rattle.fab_pieces.specs.Sound.{IsSoundState}
use Rattle.fab_roster.specs.Changes.{KeepsBounds, Moves}
use Rattle.fab_roster.specs.Roll.{Roll}
use Rattle.fab_state.specs.Fit.{FitsClock, FitsPast}
use Rattle.fab_state.proofs.RestoreLemmas.{fit_sound}
use Rattle.forward_core.specs.Restoring.{AddsPasts, AddsPorts, AwaitsPasts, AwaitsPorts, AwaitsSeam}
use Rattle.forward_core.proofs.NewLemmas.{empty_tables_are}
use Rattle.forward_core.proofs.ReloginLemmas.{held_so, tables_so}

-- ---- the head of a seam

pub advertised_low : (c : Settings) (S : State) (t last : Option ℕ) → FitsClock c S t last → IfSome last (λ m. m < 2 ^ 63)
advertised_low c S None None h = tt
advertised_low c S None (Some last) h = absurd h
advertised_low c S (Some t) None h = absurd h
advertised_low c S (Some t) (Some last) h = let least = h.least in let range = h.range in omega (arith, least, range)

pub begun_so : (c : Settings) (S : State) (t last : Option ℕ) → FitsClock c S t last → is_some last ≡ is_some t
begun_so c S None None h = refl
begun_so c S None (Some last) h = absurd h
begun_so c S (Some t) None h = absurd h
begun_so c S (Some t) (Some last) h = refl

low_clock : (c : Settings) (S : State) (t : ℕ) (last : Option ℕ) → FitsClock c S (Some t) last → t < 2 ^ 63
low_clock c S t None h = absurd h
low_clock c S t (Some last) h = let range = h.range in omega (arith, range)

-- ---- the roll

ends_of : (T : Tables) (now : ℕ) → now_of T ≡ now → (P : List Past) → AllByRecursion (FitsPast T) P → AllByRecursion (λ (q : Past). IfSome q.ended (λ t. t ≤ now)) P
ends_of T now is [] all = tt
ends_of T now is (q ∷ P) all = (subst (λ (k : ℕ). IfSome q.ended (λ t. t ≤ k)) is all.0.ended, ends_of T now is P all.1)

module _ (s : Seam) (old : Roll) (awaits : AwaitsSeam s old) where
  sound : IsSoundState awaits.settings s.state
  sound = fit_sound awaits.settings awaits.count s awaits.fit

  pub no_clock : old.tables.clock ≡ None
  no_clock = ap (λ (r : Roll). r.tables.clock) awaits.empty

  -- before the first tick there is nothing to fill in
  pub first_filled : s.state.tables.clock ≡ None → old.tables ≡ s.state.tables
  first_filled none = ap (λ (r : Roll). r.tables) awaits.empty ∙ empty_tables_are awaits.settings ∙ sym (ap (λ (S : State). S.tables) (sound.first none))

  pub clock_low : (t : ℕ) → s.state.tables.clock ≡ Some t → t < 2 ^ 63
  clock_low t is = low_clock awaits.settings s.state t s.state.advertised (subst (λ (o : Option ℕ). FitsClock awaits.settings s.state o s.state.advertised) is awaits.fit.clock)

  pub awaits_pasts : (t : ℕ) (m : Roll) → s.state.tables.clock ≡ Some t → Moves t old m → AwaitsPasts s.state.tables.past m
  awaits_pasts t m is moves = record {
    first = awaits.settings.domain * 65536 + 256;
    count = awaits.settings.pool;
    places = awaits.fit.places;
    unused_yet = moves.past ∙ ap (λ (r : Roll). r.tables.past) awaits.empty;
    ended = ends_of s.state.tables (now_of m.tables) (ap (λ (o : Option ℕ). unwrap_or o 0) (is ∙ sym moves.clock)) s.state.tables.past awaits.fit.past;
  }

  pub awaits_ports : (t : ℕ) (m k : Roll) → s.state.tables.clock ≡ Some t → Moves t old m → AddsPasts s.state.tables.past m k → AwaitsPorts s k
  awaits_ports t m k is moves adds = record {
    settings = awaits.settings;
    count = awaits.count;
    fit = awaits.fit;
    limit = adds.bounds.limit ∙ moves.bounds.limit ∙ ap (λ (r : Roll). r.limit) awaits.empty;
    runs = ap is_some is;
    clock = adds.clock ∙ moves.clock ∙ sym is;
    ports = adds.ports ∙ moves.ports ∙ ap (λ (r : Roll). r.tables.ports) awaits.empty;
    past = adds.past_is;
  }

  pub filled_bounds : (t : ℕ) (m k e : Roll) → Moves t old m → AddsPasts s.state.tables.past m k → AddsPorts s k e → KeepsBounds old e
  filled_bounds t m k e moves pasts ports = record {
    lowest = ports.bounds.lowest ∙ pasts.bounds.lowest ∙ moves.bounds.lowest;
    count = ports.bounds.count ∙ pasts.bounds.count ∙ moves.bounds.count;
    limit = ports.bounds.limit ∙ pasts.bounds.limit ∙ moves.bounds.limit;
    period = ports.bounds.period ∙ pasts.bounds.period ∙ moves.bounds.period;
  }

  pub filled : (t : ℕ) (m k e : Roll) → s.state.tables.clock ≡ Some t → Moves t old m → AddsPasts s.state.tables.past m k → AddsPorts s k e → e.tables ≡ s.state.tables
  filled t m k e is moves pasts ports =
      tables_so e.tables s.state.tables (ports.clock ∙ pasts.clock ∙ moves.clock ∙ sym is) ports.ports (ports.past ∙ held_so awaits.settings s.state sound)

pub same_of_bounds : (r old new : Roll) → old ≡ r → KeepsBounds old new → KeepsBounds r new
same_of_bounds r old new is keeps = subst (λ (x : Roll). KeepsBounds x new) is keeps
