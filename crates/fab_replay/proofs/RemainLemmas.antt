-- What a fabric stands for while lines are checked, and where the check ends.
use Rattle.std.proofs.Common.{◌≡◌, ℕ, inl, inr, Bool, true, false, List, [], ◌∷◌, ◌++◌, length, drop, Option, Some, IsTrue, IsSome, Result, Ok, Err, refl, sym, ap, ◌∙◌, subst, arith}
use Rattle.std.specs.Prelude.{IfErr, unwrap_or}
use Rattle.fab_base.specs.declared.values.Caught.{Caught}
use Rattle.fab_config.specs.Settings.{Settings}
use Rattle.fab_policy.specs.Journal.{Journal}
use Rattle.fab_policy.specs.Ranged.{IsRangedEvent}
use Rattle.fab_policy.specs.Spelling.{Spells, line_of}
use Rattle.fab_policy.specs.Standing.{Contents}
use Rattle.fab_policy.specs.State.{Tables}
use Rattle.fab_policy.specs.declared.event.Event.{Event}
use Rattle.fab_policy.specs.declared.event.Event.TheVariants as event
use Rattle.fab_policy.specs.declared.line.Format.{Format}
use Rattle.fab_policy.specs.declared.line.Line.{Line}
use Rattle.fab_policy.specs.declared.line.Line.TheVariants.{Tick, Frame}
use Rattle.fab_policy.specs.declared.verdict.Verdict.{Verdict}
use Rattle.window_records.specs.declared.shelf.Shelf.{Shelf}
use Rattle.pcap_file.specs.declared.Record.{Record}
use Rattle.fab_states.specs.States.{LegalFrom}
use Rattle.fab_states.specs.Written.{clock_on}
use Rattle.fab_states.proofs.WrittenLemmas.{clock-on}
use Rattle.fab_replay.specs.FrontFrom.{IsBegunFrom, Origin, RemainsFrom, StandsFrom, expects_tick_from, now_from, text_from}
use Rattle.fab_replay.specs.Lines.{IsLineAt, IsUnread, behind_by, end_fault, first_line, format_of, number_behind}
use Rattle.fab_replay.specs.Remains.{HasTick, IsTaken, IsTickIf}
use Rattle.fab_replay.specs.Steps.{Begin, HasTurned, IsAlong, IsIdle, IsOnShelf, IsReached, IsRefused, IsTickNow, IsWindow, Left, Scene, refusal}
use Rattle.fab_replay.specs.Verdicts.{IsAfter, IsMisjudged}
use Rattle.fab_replay.specs.declared.fault.CheckFault.{CheckFault}
use Rattle.fab_replay.specs.declared.fault.CheckFault.TheVariants as fault
use Rattle.fab_replay.specs.declared.fault.LineWhy.TheVariants as why
use Rattle.fab_replay.specs.declared.lines.Place.{Place}
use Rattle.fab_replay.specs.declared.verdicts.Misjudged.{Misjudged}
use Rattle.fab_replay.specs.declared.verdicts.Misjudged.TheVariants.{Wrong, Memory}
use Rattle.fab_replay.proofs.FrontLemmas.{begun_frame, same_clock}
use Rattle.fab_replay.proofs.LineLemmas.{behind_more, unread_as}
use Rattle.fab_replay.proofs.SentLemmas.{legal_took, stands_took}
use Rattle.fab_replay.proofs.StepLemmas.{frame_line}
use Rattle.fab_replay.proofs.WindowLemmas.{next_from, shelf_as}

-- A fabric stands for lines that are right, and lines are right for which it stands where the captures are known, of as many ports.
pub along_as : {x : Scene} {J : Journal} {F : Contents} {p : Place} → IsReached x J F p → IsAlong x true J F p
along_as h = record {
  behind = h.behind;
  ranged = h.front.ranged;
  legal = h.front.legal;
  stands = h.stands;
  settings = h.settings;
  begun = λ t. record { ports = h.front.ports; frames = h.front.frames; timed = h.front.timed };
}

pub reached_as : {x : Scene} {J : Journal} {F : Contents} {p : Place} → IsAlong x true J F p → F.count ≡ length x.records → IsReached x J F p
reached_as h count =
    let b = h.begun refl in
    record { front = record { ranged = h.ranged; ports = b.ports; frames = b.frames; legal = h.legal; timed = b.timed }; behind = h.behind; stands = h.stands; settings = h.settings; count = count }

module _ (x : Scene) (told : Bool) (J : Journal) (F : Contents) (p : Place) (h : IsAlong x told J F p) where
  abbrev rest : List ℕ
  rest = drop p.at x.bytes

  number_is : (n : ℕ) → n ≡ number_behind p.format p.entries → n ≡ number_behind (format_of x.bytes) (length J)
  number_is n e = e ∙ ap (number_behind p.format) h.behind.entries ∙ ap (λ (f : Format). number_behind f (length J)) h.behind.format

  -- the fabric has taken some entries behind those of the lines
  abbrev pub left_with : (G : Contents) (more : List Event) (r : Result ℕ CheckFault) → IsTaken (format_of x.bytes) J rest more r → LegalFrom x.settings x.from.state (more ++ J) → StandsFrom x.from G (more ++ J) →
      (IsTrue told → IsBegunFrom x.settings x.from x.records (more ++ J)) → (IsTrue told → HasTick (expects_tick_from x.settings x.from x.records J) more r) → RemainsFrom x.settings x.from x.records told x.bytes G r
  left_with G more r taken legal stands begun tick = record {
    entry_list = J;
    rest = rest;
    lines = h.behind.lines ∙ ap (λ (f : Format). text_from f (now_from x.from) J ++ rest) h.behind.format;
    ranged = h.ranged;
    more = more;
    taken = taken;
    legal = legal;
    stands = stands;
    begun = begun;
    tick = tick;
  }

  -- it has taken none
  abbrev pub stays : (r : Result ℕ CheckFault) → IsTaken (format_of x.bytes) J rest [] r → (IsTrue told → HasTick (expects_tick_from x.settings x.from x.records J) [] r) → RemainsFrom x.settings x.from x.records told x.bytes F r
  stays r taken tick = left_with F [] r taken h.legal h.stands h.begun tick

  pub stays_refused : Left x told F fault.Memory
  stays_refused = stays (Err fault.Memory) (omega arith) (λ t. tt)

  pub stays_unread : (e : CheckFault) → IsUnread x.bytes p e → Left x told F e
  stays_unread (fault.Line n why.Rest) u = stays (Err (fault.Line n why.Rest)) (number_is n u.0, refl) (λ t. tt)
  stays_unread (fault.Line n why.Text) u = stays (Err (fault.Line n why.Text)) (number_is n u.0, refl) (λ t. tt)
  stays_unread fault.Memory u = stays_refused
  stays_unread _ u = absurd u

  -- a tick where none is expected, and a frame that isn't the next
  pub stays_tick : (n : ℕ) → n ≡ number_behind p.format p.entries → (IsTrue told → expects_tick_from x.settings x.from x.records J ≡ false) → Left x told F (fault.Line n why.Tick)
  stays_tick n number none = stays (Err (fault.Line n why.Tick)) (number_is n number, inl refl) (λ t. subst (λ (b : Bool). IsTickIf b []) (sym (none t)) refl)

  pub stays_frame : (n : ℕ) → n ≡ number_behind p.format p.entries → Left x told F (fault.Line n why.Frame)
  stays_frame n number = stays (Err (fault.Line n why.Frame)) (number_is n number, refl) (λ t. tt)

  pub stays_behind : (l : Line) → (IsTrue told → expects_tick_from x.settings x.from x.records J ≡ false) → Left x told F (behind_by l p)
  stays_behind (Tick m ended) none = stays_tick (number_behind p.format p.entries) refl none
  stays_behind (Frame port index verdict at) none = stays_frame (number_behind p.format p.entries) refl

  -- and what is read behind the last frame
  pub stays_at_end : {b : List ℕ} (q : Place) (r : Result Line CheckFault) → x.bytes ≡ b → (IsTrue told → expects_tick_from x.settings x.from x.records J ≡ false) → IfErr r (λ e. IsUnread b p e × (q ≡ p)) → Left x told F (end_fault r p)
  stays_at_end q (Ok l) same none unread = stays_behind l none
  stays_at_end q (Err e) same none unread = stays_unread e (unread_as p e same unread.0)

  pub legal_old : LegalFrom F.settings x.from.state J
  legal_old = subst (λ (s : Settings). LegalFrom s x.from.state J) (sym h.settings) h.legal

  -- ---- a tick

  module _ (m : ℕ) (ended : List ℕ) (next : IsTrue told → IsTickNow x J m) (G : Contents)
      (goes : LegalFrom F.settings x.from.state J → StandsFrom x.from F J → LegalFrom F.settings x.from.state (event.Tick m ended ∷ J) × StandsFrom x.from G (event.Tick m ended ∷ J)) where
    abbrev more : List Event
    more = event.Tick m ended ∷ []

    legal_tick : LegalFrom x.settings x.from.state (event.Tick m ended ∷ J)
    legal_tick = subst (λ (s : Settings). LegalFrom s x.from.state (event.Tick m ended ∷ J)) h.settings (goes legal_old h.stands).0

    stands_tick : StandsFrom x.from G (event.Tick m ended ∷ J)
    stands_tick = (goes legal_old h.stands).1

    begun_tick : IsTrue told → IsBegunFrom x.settings x.from x.records (event.Tick m ended ∷ J)
    begun_tick t = let b = h.begun t in let n = next t in record { ports = b.ports; frames = b.frames; timed = (b.timed, (n.window, n.least, n.next)) }

    -- the line is another one
    pub left_tick : (n : ℕ) → n ≡ number_behind p.format p.entries → Left x told G (fault.Line n why.Tick)
    left_tick n number = left_with G more (Err (fault.Line n why.Tick)) (number_is n number, inr (m, ended, refl)) legal_tick stands_tick begun_tick (λ t. subst (λ (b : Bool). IsTickIf b more) (sym (next t).expected) (m, ended, refl))

    pub left_refused : Left x told G fault.Memory
    left_refused = left_with G more (Err fault.Memory) (omega arith) legal_tick stands_tick begun_tick (λ t. tt)

    pub along_tick : (q : Place) (l : Line) → IsLineAt x.bytes p q l → l ≡ Tick m ended → G.settings ≡ F.settings → IsAlong x told (event.Tick m ended ∷ J) G q
    along_tick q l at is settings = record {
      behind = behind_more (now_from x.from) x.bytes p q J (event.Tick m ended) l h.behind at is;
      ranged = (h.ranged, (subst (Spells p.format (first_line rest)) is at.spells).ranged);
      legal = legal_tick;
      stands = stands_tick;
      settings = settings ∙ h.settings;
      begun = begun_tick;
    }

  -- ---- a frame

  module _ (w : ℕ) (clock_ : F.state.tables.clock ≡ Some w) (firsts : List ℕ) (shelves : List Shelf) (done : List ℕ) (win : IsTrue told → Begin x firsts × IsWindow x w J shelves done)
      (q : Place) (port index : ℕ) (verdict : Verdict) (o : Option ℕ) (at : IsLineAt x.bytes p q (Frame port index verdict o)) (r : Record) (on : IsOnShelf firsts shelves done w port index o r) where
    begun_with : (v : Verdict) → IsTrue told → IsBegunFrom x.settings x.from x.records (event.Frame port index r.caught v ∷ J)
    begun_with v t = begun_frame x.settings x.from x.records J port index o r v (h.begun t) (next_from x w J shelves done (win t).1 port index o r (shelf_as (λ q. sym ((win t).0 q)) on))

    -- the frame's verdict is wrong
    pub left_frame : (T : Tables) (G : Contents) (f : CheckFault) → IsRefused F.settings T p port r.caught verdict f → HasTurned F.settings x.from G J port index r.caught f → Left x told G f
    left_frame T G (fault.Line n (why.Verdict found made)) u t =
        left_with G (event.Frame port index r.caught made ∷ []) (Err (fault.Line n (why.Verdict found made))) (
          number_is n u.0,
          record {
            port = port;
            index = index;
            caught = r.caught;
            told = o;
            line = subst (λ (f : Format). Spells f (first_line rest) (Frame port index found o)) h.behind.format (subst (λ (v : Verdict). Spells p.format (first_line rest) (Frame port index v o)) (sym u.1) at.spells);
            is = refl;
          },
        )
        (subst (λ (s : Settings). LegalFrom s x.from.state (event.Frame port index r.caught made ∷ J)) h.settings t.0) t.1 (begun_with made) (λ t. tt)
    left_frame T G fault.Memory u t = elim t [
      | inl same ↦ left_with G [] (Err fault.Memory) (omega arith) h.legal same h.begun (λ t. tt)
      | inr some ↦
          left_with G (event.Frame port index r.caught some.0 ∷ []) (Err fault.Memory) (omega arith) (subst (λ (s : Settings). LegalFrom s x.from.state (event.Frame port index r.caught some.0 ∷ J)) h.settings some.1) some.2 (begun_with some.0) (λ t. tt)
    ]
    left_frame T G _ u t = absurd u

    pub along_frame : (G : Contents) →
        (LegalFrom F.settings x.from.state J → StandsFrom x.from F J → LegalFrom F.settings x.from.state (event.Frame port index r.caught verdict ∷ J) × StandsFrom x.from G (event.Frame port index r.caught verdict ∷ J)) → IsRangedEvent (event.Frame port index r.caught verdict) → G.settings ≡ F.settings →
        IsAlong x told (event.Frame port index r.caught verdict ∷ J) G q
    along_frame G goes ranged settings =
        let both = goes legal_old h.stands in
        let e = event.Frame port index r.caught verdict in
        let t : w ≡ clock_on (now_from x.from) (e ∷ J) = sym (ap (λ (o : Option ℕ). unwrap_or o 0) (sym (same_clock x.settings x.from F J h.stands h.settings) ∙ clock_)) ∙ clock-on x.settings x.from.state J in
        record {
          behind = behind_more (now_from x.from) x.bytes p q J e (Frame port index verdict o) h.behind at (frame_line port index r.caught verdict p.format w o at.spells.ranged.4 on.clock_ ∙ ap (λ (n : ℕ). line_of p.format n e) t);
          ranged = (h.ranged, ranged);
          legal = subst (λ (s : Settings). LegalFrom s x.from.state (e ∷ J)) h.settings both.0;
          stands = both.1;
          settings = settings ∙ h.settings;
          begun = begun_with verdict;
        }

-- what a fabric stands for that was to take a frame with the verdict that was found
pub turned_as : (o : Origin) (F G : Contents) (J : Journal) (p : Place) (port index : ℕ) (caught heard : Caught) (found : Verdict) (e : Misjudged) (f : CheckFault) → heard ≡ caught → IsSome F.state.tables.clock →
    IsIdle F → IsMisjudged F.settings F.state.tables port heard found e → IsAfter F port index heard e G → f ≡ refusal p found e → LegalFrom F.settings o.state J → StandsFrom o F J → HasTurned F.settings o G J port index caught f
turned_as o F G J p port index caught heard found e f same clock idle wrong left told legal stands =
    subst (HasTurned F.settings o G J port index caught) (sym told) (subst (λ (k : Caught). HasTurned F.settings o G J port index k (refusal p found e)) same (by_why e wrong left))
  where
    by_why : (e : Misjudged) → IsMisjudged F.settings F.state.tables port heard found e → IsAfter F port index heard e G → HasTurned F.settings o G J port index heard (refusal p found e)
    by_why (Wrong made) w l = (legal_took o F (event.Frame port index heard made) J legal stands (clock, w.1), stands_took o F G (event.Frame port index heard made) J idle stands l)
    by_why Memory w l = inl (subst (λ (H : Contents). StandsFrom o H J) (sym l) stands)
