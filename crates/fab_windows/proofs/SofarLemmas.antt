-- What stands after a window, what it sends and how much it counts, from a state.
use Rattle.std.proofs.Common.{◌≡◌, ℕ, ◌+◌, ◌%◌, ◌^◌, ◌<◌, ◌≤◌, ◌⊎◌, List, [], ◌∷◌, ◌++◌, length, map, Option, Some, None, IfSome, IsTrue, sym, ap, ◌∙◌, subst, arith, refl}
use Rattle.std.specs.Prelude.{unwrap_or, false}
use Rattle.fab_config.specs.Settings.{Settings}
use Rattle.pcap_file.specs.declared.Record.{Record}
use Rattle.window_records.specs.Laws.{AllIn, HasSome}
use Rattle.fab_policy.specs.Growing.{FollowedByParts, RangedByParts, with_more}
use Rattle.fab_policy.specs.Journal.{Journal, followed, frame_count}
use Rattle.fab_policy.specs.Legal.{HasPorts, IsTickTimeAt, is_tick_owed}
use Rattle.fab_policy.specs.Outputs.{State, Sent, outputs_by}
use Rattle.fab_policy.specs.Standing.{AreFrames, Contents, drained, state_after}
use Rattle.fab_policy.specs.State.{now_of}
use Rattle.fab_policy.specs.Steps.{after}
use Rattle.fab_policy.specs.declared.event.Event.{Event}
use Rattle.fab_policy.specs.declared.event.Event.TheVariants.{Tick, Frame}
use Rattle.fab_policy.proofs.FollowedLemmas.{followed-append}
use Rattle.fab_states.specs.States.{LegalFrom, sent_on, state_on}
use Rattle.fab_states.specs.Went.{Went}
use Rattle.fab_states.proofs.OnLemmas.{legal-join, sent-join, state-join}
use Rattle.fab_states.proofs.WentLemmas.{went_of, went_twice}
use Rattle.fab_sending.specs.Message.{sent_of}
use Rattle.fab_sending.specs.declared.message.Out.{Out}
use Rattle.fab_pages.specs.Pages.{AreEarly}
use Rattle.forward_core.specs.Fabric.{AreRanged}
use Rattle.fab_windows.specs.Window.{AreTicksBy, Handled, Ticked}
use Rattle.fab_windows.proofs.LeftLemmas.{all_below_more, all_below_to, length-with_more}
use Rattle.fab_windows.specs.Steps.{EntriesAreFew, NotAfter, Sofar, WindowIsRun, WindowsAreEarly}
use Rattle.fab_states.specs.Runs.{RunFrom, TimedFrom, counts_on, none_of}
use Rattle.fab_windows.proofs.FromWholeLemmas as whole
use Rattle.fab_windows.proofs.StepLemmas.{ranged_each}

-- ---- states

-- right entries behind others, and what they make of the state
went_on : (c : Settings) (S : State) (K : Journal) (F G : Contents) (es : List Event) → Went F es G → F.settings ≡ c → F.state ≡ state_on c S K → LegalFrom c S K
    → LegalFrom c S (followed K es) × (G.state ≡ state_on c S (followed K es))
went_on c S K F G es w same state legal = (
  subst (LegalFrom c S) (sym (followed-append K es)) (legal-join c S K (followed [] es) legal moved),
  w.state
      ∙ ap (λ (B : State). state_on F.settings B (followed [] es)) state
      ∙ ap (λ (d : Settings). state_on d (state_on c S K) (followed [] es)) same
      ∙ sym (state-join c S K (followed [] es))
      ∙ ap (state_on c S) (sym (followed-append K es)),
)
  where
    moved : LegalFrom c (state_on c S K) (followed [] es)
    moved = subst (λ (d : Settings). LegalFrom d (state_on c S K) (followed [] es)) same (subst (λ (B : State). LegalFrom F.settings B (followed [] es)) state w.legal)

pub went_ticks : (w : ℕ) (F G : Contents) (t : Ticked w F G) → Went F t.ticks G
went_ticks w F G t = record { settings = t.settings; count = t.count; events = t.events; legal = t.legal; state = t.state; outs = t.outs }

-- ---- indexes that begin at 0

pub counts-none : (taken : List (List Record)) → counts_on (none_of taken) taken ≡ map (λ records. length records) taken
counts-none [] = refl
counts-none (records ∷ taken) = (λ i. zero_more (length records) i ∷ counts-none taken i)
  where
    zero_more : (n : ℕ) → 0 + n ≡ n
    zero_more n = omega arith

pub none-more : (taken more : List (List Record)) → none_of (with_more taken more) ≡ none_of taken
none-more [] more = refl
none-more (records ∷ taken) [] = refl
none-more (records ∷ taken) (later ∷ more) = ap (λ l. 0 ∷ l) (none-more taken more)

-- ---- a window

module _ (parts : FollowedByParts) (ranged : RangedByParts) (c : Settings) (S : State) (firsts : List ℕ) (n v w : ℕ) (taken batches : List (List Record)) (J : Journal) (F G H : Contents)
    (so_far : Sofar c S firsts n v taken J F) (soon : v ≤ w + 1) (width : length batches ≡ n) (own : AllIn c w batches) (some : HasSome batches) (t : Ticked w F G) (h : Handled (counts_on firsts taken) batches G H)
    (in_range : AreRanged H.events) where
  abbrev I : Journal
  I = followed J t.ticks

  abbrev K : Journal
  K = followed I h.grown.later

  same_width : length batches ≡ length taken
  same_width = width ∙ sym so_far.width

  are_ticks : AreTicksBy c w (state_on c S J) t.ticks
  are_ticks = subst (λ (d : Settings). AreTicksBy d w (state_on c S J) t.ticks) so_far.settings (subst (λ (B : State). AreTicksBy F.settings w B t.ticks) so_far.state t.are)

  ticked : LegalFrom c S I × (G.state ≡ state_on c S I)
  ticked = went_on c S J F G t.ticks (went_ticks w F G t) so_far.settings so_far.state so_far.run.legal

  handled : LegalFrom c S K × (H.state ≡ state_on c S K)
  handled = went_on c S I G H h.grown.later (went_of G H h.grown) (t.settings ∙ so_far.settings) ticked.1 ticked.0

  events_are : H.events ≡ t.ticks ++ h.grown.later
  events_are = h.grown.events ∙ ap (λ (l : List Event). l ++ h.grown.later) (t.events ∙ ap (λ (l : List Event). l ++ t.ticks) so_far.events)

  goes_on : followed J H.events ≡ K
  goes_on = ap (followed J) events_are ∙ parts J t.ticks h.grown.later

  frame_ports : HasPorts (length taken) (followed [] h.grown.later)
  frame_ports = subst (λ (k : ℕ). HasPorts k (followed [] h.grown.later)) (t.count ∙ so_far.count ∙ sym so_far.width) h.ports

  run_after : RunFrom c S firsts (with_more taken batches) K
  run_after = whole.runs_go_on c S firsts v w taken batches J t.ticks h.grown.later so_far.run same_width so_far.below soon own some are_ticks h.grown.frames frame_ports h.held handled.0

  window_is_run : Sofar c S firsts n (w + 1) (with_more taken batches) (followed J H.events) (drained H)
  window_is_run = record {
    ranged = ranged J H.events so_far.ranged (ranged_each H.events in_range);
    run = subst (RunFrom c S firsts (with_more taken batches)) (sym goes_on) run_after;
    width = length-with_more taken batches ∙ so_far.width;
    below = all_below_more c w taken batches same_width (all_below_to c v (w + 1) taken soon so_far.below) own;
    state = handled.1 ∙ ap (state_on c S) (sym goes_on);
    settings = h.grown.settings ∙ t.settings ∙ so_far.settings;
    count = h.grown.count ∙ t.count ∙ so_far.count;
    events = refl;
    outs = refl;
  }

pub window_is_run_from : FollowedByParts → RangedByParts → WindowIsRun
window_is_run_from parts ranged c S firsts n v w taken batches K F G H so_far soon width own some t h in_range =
    window_is_run parts ranged c S firsts n v w taken batches K F G H so_far soon width own some t h in_range

-- ---- how many entries

-- how many moments there are up to a clock
abbrev moments : Option ℕ → ℕ
moments None = 0
moments (Some t) = t + 1

abbrev NextAt : Settings → State → ℕ → ℕ → Option ℕ → Type 0
NextAt c S w m o = elim o as (λ _. Type 0) [
  | None ↦ m ≡ w
  | Some t ↦ (t < m) × (m ≤ w) × ((m ≡ w) ⊎ IsTrue (is_tick_owed c S.tables S.advertised m)) × (m % c.window ≡ 0)
      × ((k : ℕ) → IsTickTimeAt c S.tables.clock k → k < m → is_tick_owed c S.tables S.advertised k ≡ false)
]

behind_clock : (c : Settings) (S : State) (w m : ℕ) (o : Option ℕ) → NextAt c S w m o → moments o ≤ m
behind_clock c S w m None e = omega arith
behind_clock c S w m (Some t) e = omega (arith, e.0)

tick_within : (c : Settings) (S : State) (w m : ℕ) (o : Option ℕ) → NextAt c S w m o → m ≤ w
tick_within c S w m None e = omega (arith, e)
tick_within c S w m (Some t) e = e.1

ticks_are_few : (c : Settings) (S : State) (firsts : List ℕ) (ins : List (List Record)) (K : Journal) → TimedFrom c S firsts ins K → length K ≤ frame_count K + moments (state_on c S K).tables.clock
ticks_are_few c S firsts ins [] h = omega arith
ticks_are_few c S firsts ins (Tick m ended ∷ K) h =
    let before = ticks_are_few c S firsts ins K h.0 in
    let behind = behind_clock c (state_on c S K) h.1.0 m (state_on c S K).tables.clock h.1.2 in
    omega (arith, before, behind)
ticks_are_few c S firsts ins (Frame port index caught v ∷ K) h = let before = ticks_are_few c S firsts ins K h.0 in omega (arith, before)

pub entries_are_few : EntriesAreFew
entries_are_few c S firsts ins K w h below = let few = ticks_are_few c S firsts ins K h in let within = go (state_on c S K).tables.clock below in omega (arith, few, within)
  where
    go : (o : Option ℕ) → IfSome o (λ t. t < w) → moments o ≤ w
    go None b = omega arith
    go (Some t) b = omega (arith, b)

-- ---- what is sent

not_after-append : (w : ℕ) (l m : List Sent) → NotAfter w l → NotAfter w m → NotAfter w (l ++ m)
not_after-append w [] m h k = k
not_after-append w (s ∷ l) m h k = (h.0, not_after-append w l m h.1 k)

at_once : (w t : ℕ) (frames : List (ℕ × List ℕ)) → t ≤ w → NotAfter w (map (λ x. record { port = x.0; moment = t; bytes = x.1 }) frames)
at_once w t [] le = tt
at_once w t (x ∷ frames) le = (le, at_once w t frames le)

one_sent : (c : Settings) (n w : ℕ) (S : State) (e : Event) → now_of (after c S.tables e) ≤ w → NotAfter w (sent_on c n S (e ∷ []))
unfolding outputs_by
one_sent c n w S e le = at_once w (now_of (after c S.tables e)) _ le

-- an entry and those behind it
first_sent : (c : Settings) (n w : ℕ) (S : State) (e : Event) (es : List Event) → NotAfter w (sent_on c n S (e ∷ [])) → NotAfter w (sent_on c n (state_after c S e) (followed [] es)) → NotAfter w (sent_on c n S (followed [] (e ∷ es)))
first_sent c n w S e es one more =
    subst (λ (K : Journal). NotAfter w (sent_on c n S K)) (sym (followed-append (e ∷ []) es))
    (subst (NotAfter w) (sym (sent-join c n S (e ∷ []) (followed [] es))) (not_after-append w _ _ one more))

ticks_sent : (c : Settings) (n w : ℕ) (S : State) (es : List Event) → AreTicksBy c w S es → NotAfter w (sent_on c n S (followed [] es))
ticks_sent c n w S [] h = tt
ticks_sent c n w S (Frame port index caught v ∷ es) h = absurd h
ticks_sent c n w S (Tick m ended ∷ es) h =
    first_sent c n w S (Tick m ended) es (one_sent c n w S (Tick m ended) (tick_within c S w m S.tables.clock h.0)) (ticks_sent c n w (state_after c S (Tick m ended)) es h.1)

frames_sent : (c : Settings) (n w : ℕ) (S : State) (es : List Event) → AreFrames es → now_of S.tables ≤ w → NotAfter w (sent_on c n S (followed [] es))
frames_sent c n w S [] h le = tt
frames_sent c n w S (Tick m ended ∷ es) h le = absurd h
frames_sent c n w S (Frame port index caught v ∷ es) h le =
    first_sent c n w S (Frame port index caught v) es (one_sent c n w S (Frame port index caught v) le) (frames_sent c n w (state_after c S (Frame port index caught v)) es h le)

pub windows_are_early : WindowsAreEarly
windows_are_early w F G H nothing t h =
    let at : now_of G.state.tables ≡ w = ap (λ (o : Option ℕ). unwrap_or o 0) t.at_clock in
    let front : NotAfter w G.outs = subst (NotAfter w) (sym (t.outs ∙ ap (λ (l : List Sent). l ++ sent_on F.settings F.count F.state (followed [] t.ticks)) nothing)) (ticks_sent F.settings F.count w F.state t.ticks t.are) in
    subst (NotAfter w) (sym h.outs) (not_after-append w G.outs _ front (frames_sent G.settings G.count w G.state h.later h.frames (omega (arith, at))))

-- values that are sent at moments of such frames
pub early : (c : Settings) (events : List Event) (w : ℕ) (outs : List Out) → w < 2 ^ 53 → NotAfter w (map (sent_of c events) outs) → AreEarly outs
early c events w [] lt h = tt
early c events w (o ∷ outs) lt h = (omega (arith, h.0, lt), early c events w outs lt h.1)

-- what is sent is what the entries send
module _ (w : ℕ) (F G H : Contents) (firsts : List ℕ) (batches : List (List Record)) (t : Ticked w F G) (f : Handled firsts batches G H) (none : F.events ≡ []) where
  happened : H.events ≡ t.ticks ++ f.grown.later
  happened = f.grown.events ∙ ap (λ (l : List Event). l ++ f.grown.later) (t.events ∙ ap (λ (l : List Event). l ++ t.ticks) none)

  pub outs_are : F.outs ≡ [] → H.outs ≡ sent_on F.settings F.count F.state (followed [] H.events)
  outs_are nothing =
      (went_twice F G H t.ticks f.grown.later (went_ticks w F G t) (went_of G H f.grown)).outs
      ∙ ap (λ (l : List Sent). l ++ sent_on F.settings F.count F.state (followed [] (t.ticks ++ f.grown.later))) nothing
      ∙ ap (λ (es : List Event). sent_on F.settings F.count F.state (followed [] es)) (sym happened)
