-- What a fabric took, once and twice, and which journals it stands for then.
use Rattle.std.proofs.Common.{◌≡◌, ℕ, List, [], ◌∷◌, ◌++◌, refl, sym, ap, subst, ◌∙◌, append_assoc}
use Rattle.std.proofs.lemmas.List.{append-nil}
use Rattle.fab_base.specs.declared.values.Caught.{Caught}
use Rattle.fab_config.specs.Settings.{Settings}
use Rattle.fab_policy.specs.Journal.{Journal, followed}
use Rattle.fab_policy.specs.Legal.{IsNextTickBy, IsRightEntry}
use Rattle.fab_policy.specs.Outputs.{State, Sent, state_of}
use Rattle.fab_policy.specs.Standing.{AreFrames, Contents, Stands, Takes, sent_after}
use Rattle.fab_policy.specs.declared.event.Event.{Event}
use Rattle.fab_policy.specs.declared.event.Event.TheVariants.{Frame}
use Rattle.fab_policy.specs.declared.verdict.Verdict.{Verdict}
use Rattle.fab_policy.proofs.FollowedLemmas.{frames-append}
use Rattle.fab_policy.proofs.GrowLemmas.{followed_by_parts, sent_by_parts}
use Rattle.fab_states.specs.Laws.{GrownStands, GrowsByFrames, NextTicksStand, WentStands}
use Rattle.fab_states.specs.States.{LegalFrom, sent_on, state_on}
use Rattle.fab_states.specs.Went.{Grown, Went, grown_of_itself}
use Rattle.fab_states.proofs.OnLemmas.{followed-twice, legal-join, legal_goes_on, sent-join, sent_goes_on, state-join, states_go_on}

-- ---- taking entries

pub went_none : (F : Contents) → Went F [] F
went_none F = record { settings = refl; count = refl; events = sym (append-nil F.events); legal = tt; state = refl; outs = sym (append-nil F.outs) }

pub went_once : (F G : Contents) (e : Event) → IsRightEntry F.settings F.state.tables e → Takes F e G → Went F (e ∷ []) G
went_once F G e right took = record { settings = took.settings; count = took.count; events = took.events; legal = (tt, right); state = took.state; outs = took.outs }

-- right entries go by the settings and the state alone
moved_legal : (c d : Settings) (S B : State) (K : Journal) → c ≡ d → S ≡ B → LegalFrom c S K → LegalFrom d B K
moved_legal c d S B K e f l = subst (λ x. LegalFrom x B K) e (subst (λ x. LegalFrom c x K) f l)

moved_state : (c d : Settings) (S B : State) (K : Journal) → c ≡ d → S ≡ B → state_on c S K ≡ state_on d B K
moved_state c d S B K e f = ap (λ x. state_on c x K) f ∙ ap (λ x. state_on x B K) e

moved_sent : (c d : Settings) (n k : ℕ) (S B : State) (K : Journal) → c ≡ d → n ≡ k → S ≡ B → sent_on c n S K ≡ sent_on d k B K
moved_sent c d n k S B K e f g = ap (λ x. sent_on c n x K) g ∙ ap (λ (x : ℕ). sent_on c x B K) f ∙ ap (λ x. sent_on x k B K) e

pub went_twice : (F G H : Contents) (es more : List Event) → Went F es G → Went G more H → Went F (es ++ more) H
went_twice F G H es more g h =
    let c = F.settings in
    let n = F.count in
    let S = F.state in
    let I = followed [] es in
    let K = followed [] more in
    let B = state_on c S I in
    record {
      settings = h.settings ∙ g.settings;
      count = h.count ∙ g.count;
      events = h.events ∙ ap (λ (l : List Event). l ++ more) g.events ∙ append_assoc F.events es more;
      legal = subst (LegalFrom c S) (sym (followed-twice es more)) (legal-join c S I K g.legal (moved_legal G.settings c G.state B K g.settings g.state h.legal));
      state = h.state ∙ moved_state G.settings c G.state B K g.settings g.state ∙ sym (state-join c S I K) ∙ ap (state_on c S) (sym (followed-twice es more));
      outs = h.outs
          ∙ ap (λ (l : List Sent). l ++ sent_on G.settings G.count G.state K) g.outs
          ∙ append_assoc F.outs (sent_on c n S I) (sent_on G.settings G.count G.state K)
          ∙ ap (λ (l : List Sent). F.outs ++ (sent_on c n S I ++ l)) (moved_sent G.settings c G.count n G.state B K g.settings g.count g.state)
          ∙ ap (λ (l : List Sent). F.outs ++ l) (sym (sent-join c n S I K) ∙ ap (sent_on c n S) (sym (followed-twice es more)));
    }

-- ---- growing by frames

pub went_of : (F G : Contents) (g : Grown F G) → Went F g.later G
went_of F G g = record { settings = g.settings; count = g.count; events = g.events; legal = g.legal; state = g.state; outs = g.outs }

pub grown_of : (F G : Contents) (es : List Event) → F.state.tables.clock ≡ G.state.tables.clock → AreFrames es → Went F es G → Grown F G
grown_of F G es clock frames w =
    record { settings = w.settings; count = w.count; clock = sym clock; later = es; frames = frames; events = w.events; legal = w.legal; state = w.state; outs = w.outs }

pub grown_once : (F G : Contents) (port index : ℕ) (caught : Caught) (v : Verdict) → IsRightEntry F.settings F.state.tables (Frame port index caught v) → Takes F (Frame port index caught v) G
    → Grown F G
grown_once F G port index caught v right took =
    grown_of F G (Frame port index caught v ∷ []) (sym (ap (λ (S : State). S.tables.clock) took.state)) tt (went_once F G (Frame port index caught v) right took)

pub grown_twice : (F G H : Contents) → Grown F G → Grown G H → Grown F H
grown_twice F G H g h =
    grown_of F H (g.later ++ h.later) (sym (h.clock ∙ g.clock)) (frames-append g.later h.later g.frames h.frames)
    (went_twice F G H g.later h.later (went_of F G g) (went_of G H h))

pub grows_by_frames : GrowsByFrames
grows_by_frames = (grown_of_itself, λ first F G port index caught v g right took. grown_twice first F G g (grown_once F G port index caught v right took))

-- ---- journals

pub went_stands : WentStands
went_stands F G es w J l s = (legal_goes_on F.settings J es l (subst (λ (B : State). LegalFrom F.settings B (followed [] es)) s.state w.legal), stands)
  where
    state : G.state ≡ state_of G.settings (followed J es)
    state = w.state ∙ ap (λ (B : State). state_on F.settings B (followed [] es)) s.state ∙ sym (states_go_on F.settings J es) ∙ ap (λ (c : Settings). state_of c (followed J es)) (sym w.settings)

    sent : sent_on F.settings F.count F.state (followed [] es) ≡ sent_after F.settings F.count (followed s.older F.events) es
    sent = ap (λ (B : State). sent_on F.settings F.count B (followed [] es)) s.state ∙ sym (sent_goes_on F.settings F.count J es) ∙ ap (λ (I : Journal). sent_after F.settings F.count I es) s.events

    stands : Stands G (followed J es)
    stands = record {
      state = state;
      older = s.older;
      events = ap (λ (I : Journal). followed I es) s.events ∙ sym (followed_by_parts s.older F.events es) ∙ ap (followed s.older) (sym w.events);
      outs = w.outs
          ∙ ap (λ (l : List Sent). l ++ sent_on F.settings F.count F.state (followed [] es)) s.outs
          ∙ ap (λ (l : List Sent). sent_after F.settings F.count s.older F.events ++ l) sent
          ∙ sym (sent_by_parts F.settings F.count s.older F.events es)
          ∙ ap (sent_after F.settings F.count s.older) (sym w.events)
          ∙ ap (λ (c : Settings). sent_after c F.count s.older G.events) (sym w.settings)
          ∙ ap (λ (n : ℕ). sent_after G.settings n s.older G.events) (sym w.count);
    }

pub grown_stands : GrownStands
grown_stands first F g J l s = went_stands first F g.later (went_of first F g) J l s

-- ---- ticks

pub next_ticks_stand : NextTicksStand
next_ticks_stand F J w m s next = subst (λ (B : State). IsNextTickBy F.settings B w m) s.state next
