-- What the line at a place makes of the lines before it: one more entry, or the first fault.
use Rattle.std.proofs.Common.{◌≡◌, ℕ, ◌+◌, ◌<◌, ◌≤◌, inl, inr, true, eqb, List, ◌++◌, length, drop, Option, Some, None, IfSome, refl, sym, ap, ◌∙◌, subst, arith}
use Rattle.fab_base.specs.declared.values.Caught.{Caught}
use Rattle.fab_config.specs.Settings.{Settings}
use Rattle.fab_policy.specs.Journal.{Journal}
use Rattle.window_records.specs.Keeping.{IsAhead}
use Rattle.fab_policy.specs.Legal.{IsLeastOf, IsNextTickBy, windows_left}
use Rattle.fab_policy.specs.Outputs.{State}
use Rattle.fab_policy.specs.Spelling.{HasClockOf, Spells, line_of}
use Rattle.fab_policy.specs.Standing.{Contents}
use Rattle.fab_policy.specs.State.{Tables, addresses, overdue}
use Rattle.fab_policy.specs.Verdicts.{IsRight}
use Rattle.fab_policy.specs.declared.event.Event.{Event}
use Rattle.fab_policy.specs.declared.event.Event.TheVariants as event
use Rattle.fab_policy.specs.declared.line.Format.{Format}
use Rattle.fab_policy.specs.declared.line.Format.TheVariants.{One, Two}
use Rattle.fab_policy.specs.declared.line.Line.{Line}
use Rattle.fab_policy.specs.declared.line.Line.TheVariants.{Tick, Frame}
use Rattle.fab_policy.specs.declared.verdict.Verdict.{Verdict}
use Rattle.window_records.specs.declared.shelf.Shelf.{Shelf}
use Rattle.pcap_file.specs.declared.Record.{Record}
use Rattle.fab_replay.specs.Front.{IsGatheredTo, has_left, is_at}
use Rattle.fab_replay.specs.FrontFrom.{IsFirstWrongFrom, IsNextFrameFrom, IsWrongFrom, StandsFrom, clock_from, now_from, text_from}
use Rattle.fab_replay.specs.Lines.{IsLineAt, IsUnread, first_line, number_behind}
use Rattle.fab_states.specs.States.{state_on}
use Rattle.forward_core.specs.Fabric.{IsTickOf}
use Rattle.fab_replay.specs.Steps.{HasLeft, HoldSame, IsFound, IsOnShelf, IsReached, IsRefused, IsTickNow, IsWindow, Scene, refusal}
use Rattle.fab_replay.specs.declared.fault.CheckFault.{CheckFault}
use Rattle.fab_replay.specs.declared.fault.CheckFault.TheVariants as fault
use Rattle.fab_replay.specs.declared.fault.LineWhy.{LineWhy}
use Rattle.fab_replay.specs.declared.fault.LineWhy.TheVariants as why
use Rattle.fab_replay.specs.Verdicts.{IsMisjudged}
use Rattle.fab_replay.specs.declared.lines.Place.{Place}
use Rattle.fab_replay.specs.declared.verdicts.Misjudged.{Misjudged}
use Rattle.fab_replay.specs.declared.verdicts.Misjudged.TheVariants.{Wrong, Memory}
use Rattle.fab_replay.proofs.FrontLemmas.{same_clock, same_state}
use Rattle.fab_replay.proofs.LeftLemmas.{any_of, gathered_next, left_same, tick_expected}
use Rattle.fab_replay.proofs.WindowLemmas.{from_next, least_window, left_here, next_from, no_tick_here}

-- the line of a frame, which tells the clock where its format does
pub frame_line : (port index : ℕ) (caught : Caught) (v : Verdict) (f : Format) (t : ℕ) (o : Option ℕ) → HasClockOf f o → IfSome o (λ k. k ≡ t) → Frame port index v o ≡ line_of f t (event.Frame port index caught v)
frame_line port index caught v One t None has is = refl
frame_line port index caught v One t (Some k) has is = absurd has
frame_line port index caught v Two t None has is = absurd has
frame_line port index caught v Two t (Some k) has is = ap (λ (n : ℕ). Frame port index v (Some n)) is

module _ (x : Scene) (J : Journal) (F : Contents) (p : Place) (h : IsReached x J F p) where
  abbrev c : Settings
  c = x.settings

  -- what is wrong with the line at the place is the first fault, where the windows up to it were gathered
  pub wrong_here : IsGatheredTo c x.records x.stop J → (n : ℕ) (y : LineWhy) → n ≡ number_behind p.format p.entries → IsWrongFrom c x.from x.records J p.format (drop p.at x.bytes) y → IsFirstWrongFrom c x.from x.records x.stop x.bytes n y
  wrong_here gathered n y number wrong = record {
    entry_list = J;
    before = record {
      rest = drop p.at x.bytes;
      lines = h.behind.lines ∙ ap (λ (f : Format). text_from f (now_from x.from) J ++ drop p.at x.bytes) h.behind.format;
      front = h.front;
    };
    gathered = gathered;
    number = number ∙ ap (number_behind p.format) h.behind.entries ∙ ap (λ (f : Format). number_behind f (length J)) h.behind.format;
    wrong = subst (λ (f : Format). IsWrongFrom c x.from x.records J f (drop p.at x.bytes) y) h.behind.format wrong;
  }

  -- a line that can't be read, or isn't there
  pub unread_here : IsGatheredTo c x.records x.stop J → (e : CheckFault) → has_left c x.records J ≡ true → IsUnread x.bytes p e → IsFound x e
  unread_here gathered (fault.Line n why.Rest) left u = wrong_here gathered n why.Rest u.0 (u.1, left)
  unread_here gathered (fault.Line n why.Text) left u = wrong_here gathered n why.Text u.0 (u.1, u.2)
  unread_here gathered fault.Memory left u = tt
  unread_here gathered _ left u = absurd u

  -- ---- a tick

  module _ (m : ℕ) (t : IsTickNow x J m) where
    pub left_then : has_left c x.records J ≡ true
    left_then = any_of (λ n. eqb n t.window) (windows_left c 1 x.records J) t.least.0

    abbrev ends : List ℕ
    ends = addresses (overdue F.settings F.state.tables m)

    pub other_tick : IsAhead (t.window + 1) x.stop → (n : ℕ) (q : Place) (l : Line) → n ≡ number_behind p.format p.entries → IsLineAt x.bytes p q l → (l ≡ Tick m ends → ⊥) → IsFirstWrongFrom c x.from x.records x.stop x.bytes n why.Tick
    other_tick ahead n q l number at ne = wrong_here (gathered_next c x.records x.stop J t.window t.least ahead) n why.Tick number (
      l,
      at.spells,
      inl (
        t.expected,
        m,
        ends,
        record {
          window = t.window;
          least = t.least;
          next = t.next;
          ends = ap (λ (S : State). addresses (overdue F.settings S.tables m)) (same_state c x.from F J h.stands h.settings) ∙ ap (λ (s : Settings). addresses (overdue s (state_on c x.from.state J).tables m)) h.settings;
        },
        ne,
      ),
    )

  -- ---- a frame

  module _ (w : ℕ) (shelves : List Shelf) (done : List ℕ) (win : IsWindow x w J shelves done) (left : HasLeft shelves done) (width : length done ≡ length shelves) where
    gathered_here : IsGatheredTo c x.records x.stop J
    gathered_here = gathered_next c x.records x.stop J w (least_window x w J shelves done win width left) win.ahead

    -- no line that can be read
    pub no_line_here : (e : CheckFault) → IsUnread x.bytes p e → IsFound x e
    no_line_here e u = unread_here gathered_here e (any_of (is_at (clock_from c x.from J)) (windows_left c 1 x.records J) (left_here x w J shelves done win left)) u

    -- a tick where none is expected
    pub tick_here : (n : ℕ) (q : Place) (m : ℕ) (ended : List ℕ) → n ≡ number_behind p.format p.entries → IsLineAt x.bytes p q (Tick m ended) → IsFirstWrongFrom c x.from x.records x.stop x.bytes n why.Tick
    tick_here n q m ended number at = wrong_here gathered_here n why.Tick number (Tick m ended, at.spells, inr (no_tick_here x w J shelves done win left, refl))

    module _ (q : Place) (port index : ℕ) (verdict : Verdict) (told : Option ℕ) (at : IsLineAt x.bytes p q (Frame port index verdict told)) where
      -- no next frame
      pub other_frame : (n : ℕ) → n ≡ number_behind p.format p.entries → ((r : Record) → IsOnShelf x.from.firsts shelves done w port index told r → ⊥) → IsFirstWrongFrom c x.from x.records x.stop x.bytes n why.Frame
      other_frame n number none =
          wrong_here gathered_here n why.Frame number (port, index, told, (verdict, at.spells), no_tick_here x w J shelves done win left, λ r next. none r (from_next x w J shelves done win width port index told r next))

      module _ (r : Record) (on : IsOnShelf x.from.firsts shelves done w port index told r) where
        abbrev e : Event
        e = event.Frame port index r.caught verdict

        next_is : IsNextFrameFrom c x.from x.records J port index told r
        next_is = next_from x w J shelves done win port index told r on

        abbrev kept : State
        kept = state_on c x.from.state J

        to_entries : (v : Verdict) → IsRight F.settings F.state.tables port r.caught v → IsRight c kept.tables port r.caught v
        to_entries v y = subst (λ (s : Settings). IsRight s kept.tables port r.caught v) h.settings (subst (λ (S : State). IsRight F.settings S.tables port r.caught v) (same_state c x.from F J h.stands h.settings) y)

        from_entries : (v : Verdict) → IsRight c kept.tables port r.caught v → IsRight F.settings F.state.tables port r.caught v
        from_entries v y = subst (λ (S : State). IsRight F.settings S.tables port r.caught v) (sym (same_state c x.from F J h.stands h.settings)) (subst (λ (s : Settings). IsRight s kept.tables port r.caught v) (sym h.settings) y)

        -- a verdict that isn't right
        pub refused_here : (f : CheckFault) → IsRefused F.settings F.state.tables p port r.caught verdict f → IsFound x f
        refused_here (fault.Line n (why.Verdict found made)) u =
            wrong_here gathered_here n (why.Verdict found made) u.0 (
              port,
              index,
              told,
              r,
              subst (λ (v : Verdict). Spells p.format (first_line (drop p.at x.bytes)) (Frame port index v told)) (sym u.1) at.spells,
              no_tick_here x w J shelves done win left,
              next_is,
              λ right. u.2 (from_entries found right),
              to_entries made u.3,
            )
        refused_here fault.Memory u = tt
        refused_here _ u = absurd u

-- ---- the next tick

pub before_window : (o : Option ℕ) (m w : ℕ) → IfSome o (λ t. t < m) → m ≤ w → IfSome o (λ t. t < w)
before_window None m w h le = tt
before_window (Some t) m w h le = omega (arith, h, le)

-- the fabric's next tick on the way to the least window
abbrev pub tick_now : (x : Scene) (I J : Journal) (F : Contents) → StandsFrom x.from F J → F.settings ≡ x.settings → (w m : ℕ) → HoldSame I J → IsTickOf w F m → IsLeastOf (windows_left x.settings 1 x.records I) w → IsTickNow x J m
tick_now x I J F stands settings w m same t least =
    let own = subst (λ l. IsLeastOf l w) (sym (left_same x.settings 1 x.records I J same)) least in
    record {
      window = w;
      least = own;
      next = subst (λ (S : State). IsNextTickBy x.settings S w m) (same_state x.settings x.from F J stands settings) (subst (λ (c : Settings). IsNextTickBy c F.state w m) settings t.next);
      expected = tick_expected x.settings (clock_from x.settings x.from J) x.records J w own
          (before_window (clock_from x.settings x.from J) m w (subst (λ o. IfSome o (λ k. k < m)) (same_clock x.settings x.from F J stands settings) t.above) t.within);
    }

-- what a misjudged frame is refused with
pub refused_as : (c : Settings) (T : Tables) (p : Place) (port : ℕ) (caught heard : Caught) (found : Verdict) (e : Misjudged) (f : CheckFault) → heard ≡ caught → IsMisjudged c T port heard found e → f ≡ refusal p found e → IsRefused c T p port caught found f
refused_as c T p port caught heard found e f same h told = subst (IsRefused c T p port caught found) (sym told) (by_why e (subst (λ (k : Caught). IsMisjudged c T port k found e) same h))
  where
    by_why : (e : Misjudged) → IsMisjudged c T port caught found e → IsRefused c T p port caught found (refusal p found e)
    by_why (Wrong made) w = (refl, refl, w.0, w.1)
    by_why Memory w = tt
