-- The ticks up to a window, one after another.
use Rattle.std.proofs.Common.{◌≡◌, ℕ, ◌≤◌, List, [], ◌∷◌, ◌++◌, Option, Some, IfSome, Result, Ok, Err, OnErr, sym, ap, ◌∙◌, subst, append_assoc}
use Rattle.std.proofs.lemmas.List.{append-nil}
use Rattle.fab_config.specs.Settings.{Settings}
use Rattle.fab_policy.specs.Journal.{Journal, clock, followed}
use Rattle.fab_policy.specs.Legal.{IsNextTickBy, IsRightEntry, Legal}
use Rattle.fab_policy.specs.Outputs.{State, state_of}
use Rattle.fab_policy.specs.Standing.{Contents, Stands, Takes, state_after}
use Rattle.fab_policy.specs.declared.event.Event.{Event}
use Rattle.fab_policy.specs.declared.event.Event.TheVariants.{Tick, Frame}
use Rattle.fab_policy.proofs.Standing.{state_step}
use Rattle.fab_states.specs.States.{state_on}
use Rattle.fab_states.specs.Went.{Went}
use Rattle.fab_states.proofs.OnLemmas.{followed-twice}
use Rattle.fab_states.proofs.WentLemmas.{went_none, went_once, went_stands, went_twice}
use Rattle.fab_windows.specs.Window.{AreTicksBy, AreTicksTo, Ticked, TickedPart}
use Rattle.forward_core.specs.Fabric.{IsTickOf}

-- a fabric's clock is that of its journals
pub same_clock : (F : Contents) (J : Journal) → Stands F J → F.state.tables.clock ≡ clock J
same_clock F J s = ap (λ (S : State). S.tables.clock) s.state

-- ---- the ticks so far

-- Some of the ticks were made: with those that are still to come they are ticks up to the window.
pub record Ticking (w : ℕ) (F G : Contents) : Type 0 where
  pub within : IfSome G.state.tables.clock (λ t. t ≤ w)
  pub ticks : List Event
  pub went : Went F ticks G
  pub on : (more : List Event) → AreTicksBy F.settings w (state_on F.settings F.state (followed [] ticks)) more → AreTicksBy F.settings w F.state (ticks ++ more)

pub ticking_none : (w : ℕ) (F : Contents) → IfSome F.state.tables.clock (λ t. t ≤ w) → Ticking w F F
ticking_none w F within = record { within = within; ticks = []; went = went_none F; on = λ more are. are }

module _ (w m : ℕ) (ended : List ℕ) (F G H : Contents) (so_far : Ticking w F G) (tick : IsTickOf w G m) (right : IsRightEntry G.settings G.state.tables (Tick m ended)) (took : Takes G (Tick m ended) H) where
  abbrev e : Event
  e = Tick m ended

  at_moment : H.state.tables.clock ≡ Some m
  at_moment = ap (λ (S : State). S.tables.clock) took.state

  next : IsNextTickBy F.settings (state_on F.settings F.state (followed [] so_far.ticks)) w m
  next =
      subst (λ (c : Settings). IsNextTickBy c (state_on F.settings F.state (followed [] so_far.ticks)) w m) so_far.went.settings
      (subst (λ (S : State). IsNextTickBy G.settings S w m) so_far.went.state tick.next)

  pub ticking_more : Ticking w F H
  ticking_more = record {
    within = subst (λ (o : Option ℕ). IfSome o (λ t. t ≤ w)) (sym at_moment) tick.within;
    ticks = so_far.ticks ++ e ∷ [];
    went = went_twice F G H so_far.ticks (e ∷ []) so_far.went (went_once G H e right took);
    on = λ more are.
        subst (AreTicksBy F.settings w F.state) (sym (append_assoc so_far.ticks (e ∷ []) more))
        (so_far.on (e ∷ more) (next, subst (λ (K : Journal). AreTicksBy F.settings w (state_on F.settings F.state K) more) (followed-twice so_far.ticks (e ∷ [])) are));
  }

-- all ticks were made
pub ticking_all : (w : ℕ) (F G : Contents) → Ticking w F G → G.state.tables.clock ≡ Some w → Ticked w F G
ticking_all w F G so_far at = record {
  settings = so_far.went.settings;
  count = so_far.went.count;
  at_clock = at;
  ticks = so_far.ticks;
  events = so_far.went.events;
  are = subst (AreTicksBy F.settings w F.state) (append-nil so_far.ticks) (so_far.on [] (ap (λ (S : State). S.tables.clock) (sym so_far.went.state) ∙ at));
  legal = so_far.went.legal;
  state = so_far.went.state;
  outs = so_far.went.outs;
}

-- the ticks that were made before memory was refused
pub ticking_part : (w : ℕ) (F G H : Contents) → Ticking w F G → H ≡ G → TickedPart F H
ticking_part w F G H so_far same = subst (TickedPart F) (sym same) (record {
  settings = so_far.went.settings;
  count = so_far.went.count;
  ticks = so_far.ticks;
  events = so_far.went.events;
  legal = so_far.went.legal;
  state = so_far.went.state;
  outs = so_far.went.outs;
})

-- what holds anyhow holds of a refusal
pub all_on_err : {A B P : Type 0} (r : Result A B) → P → OnErr r P
all_on_err (Ok v) p = tt
all_on_err (Err e) p = p

-- ---- journals

-- ticks by what a fabric keeps are ticks of each journal that says it
ticks_to : (c : Settings) (w : ℕ) (J : Journal) (S : State) (es : List Event) → S ≡ state_of c J → AreTicksBy c w S es → AreTicksTo c w J es
ticks_to c w J S [] same h = ap (λ (B : State). B.tables.clock) (sym same) ∙ h
ticks_to c w J S (Frame port index caught verdict ∷ es) same h = absurd h
ticks_to c w J S (Tick m ended ∷ es) same h = (
  subst (λ (B : State). IsNextTickBy c B w m) same h.0,
  ticks_to c w (Tick m ended ∷ J) (state_after c S (Tick m ended)) es (ap (λ (B : State). state_after c B (Tick m ended)) same ∙ sym (state_step c (Tick m ended) J)) h.1,
)

-- The ticks come behind each legal journal that the fabric stood for.
pub ticked_stands : (w : ℕ) (F G : Contents) (t : Ticked w F G) (J : Journal) → Legal F.settings J → Stands F J → AreTicksTo F.settings w J t.ticks × Legal F.settings (followed J t.ticks) × Stands G (followed J t.ticks)
ticked_stands w F G t J l s =
    let both = went_stands F G t.ticks (record { settings = t.settings; count = t.count; events = t.events; legal = t.legal; state = t.state; outs = t.outs }) J l s in
    (ticks_to F.settings w J F.state t.ticks s.state t.are, both.0, both.1)
