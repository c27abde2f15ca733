-- A turn: an entry is kept with what it sends, and the tables are those after it.
use Rattle.std.proofs.Common.{◌≡◌, ℕ, List, [], ◌∷◌, ◌++◌, length, Option, Some, refl, sym, ap, ◌∙◌, subst, slice_get, option_and_then}
use Rattle.fab_policy.specs.Outputs.{State, advertised_after}
use Rattle.fab_policy.specs.State.{Tables}
use Rattle.fab_policy.specs.Standing.{Contents, Takes}
use Rattle.fab_policy.specs.Steps.{after}
use Rattle.fab_policy.specs.declared.event.Event.{Event}
use Rattle.fab_policy.specs.declared.verdict.Verdict.{Verdict}
use Rattle.fab_sending.specs.Message.{caught_in, frame_at}
use Rattle.fab_sending.specs.Sends.{AreSent, CanFollow, state_before}
use Rattle.fab_sending.specs.declared.sends.Before.{Before}
use Rattle.fab_sending.specs.declared.sends.Sends.{Sends}
use Rattle.forward_core.specs.Arrived.{caught_of, entry_of}
use Rattle.forward_core.specs.Turns.{IsBefore, IsSent, Keeps}
use Rattle.forward_core.specs.declared.arrived.Arrived.{Arrived}

-- the contents with other tables and another moment of the last advertisement
abbrev pub with_state : Contents → Tables → Option ℕ → Contents
with_state F T advertised = record {
  settings = F.settings;
  count = F.count;
  state = record { tables = T; advertised = advertised; rscns = F.state.rscns };
  events = F.events;
  outs = F.outs;
}

abbrev state_made : Tables → Option ℕ → ℕ → State
state_made T advertised rscns = record { tables = T; advertised = advertised; rscns = rscns }

pub takes : (F K : Contents) (e : Event) (s : Sends) (T : Tables) (advertised : Option ℕ) → Keeps F e s K → AreSent F.settings F.count F.state e (F.events ++ e ∷ []) s →
    T ≡ after F.settings F.state.tables e → advertised ≡ advertised_after F.settings F.state.advertised e → Takes F e (with_state K T advertised)
takes F K e s T advertised k sent tables advert = record {
  settings = k.settings;
  count = k.count;
  state =
      ap (λ t. state_made t advertised K.state.rscns) tables ∙ (ap (λ a. state_made (after F.settings F.state.tables e) a K.state.rscns) advert
      ∙ ap (λ n. state_made (after F.settings F.state.tables e) (advertised_after F.settings F.state.advertised e) n) (k.rscns ∙ sent.rscns));
  events = k.events;
  outs = k.outs ∙ ap (λ l. F.outs ++ l) sent.outs;
}

-- what is sent by what was known before an entry
pub sent_for : (b : Before) (F : Contents) (e : Event) (events : List Event) (s : Sends) → IsBefore b F → AreSent b.config.now b.ports (state_before b) e events s → AreSent F.settings F.count F.state e events s
sent_for b F e events s is sent =
    subst (λ x. AreSent F.settings F.count x e events s) is.state (subst (λ x. AreSent F.settings x (state_before b) e events s) is.ports (subst (λ x. AreSent x b.ports (state_before b) e events s) is.config sent))

-- the entry behind others stands at the place of their number
last_there : (e : Event) (es : List Event) → slice_get (es ++ e ∷ []) (length es) ≡ Some e
last_there e [] = refl
last_there e (x ∷ es) = last_there e es

pub frame_there : (frame : Arrived) (v : Verdict) (es : List Event) → frame_at (length es) (es ++ entry_of frame v ∷ []) ≡ Some (caught_of frame)
frame_there frame v es = ap (λ o. option_and_then caught_in o) (last_there (entry_of frame v) es)

-- what a frame sends that was judged by the contents before it
pub frame_sent : (F : Contents) (frame : Arrived) (v : Verdict) (s : Sends) → IsSent F frame v s → CanFollow F.settings F.state.tables frame.port frame.index (caught_of frame) v →
    AreSent F.settings F.count F.state (entry_of frame v) (F.events ++ entry_of frame v ∷ []) s
frame_sent F frame v s made follows =
    let b = made.before in
    sent_for b F (entry_of frame v) (F.events ++ entry_of frame v ∷ []) s made.is
    (made.sends.sent frame.index (F.events ++ entry_of frame v ∷ []) (frame_there frame v F.events)
    (subst (λ c. CanFollow c b.roster.now.tables frame.port frame.index (caught_of frame) v) (sym made.is.config)
    (subst (λ T. CanFollow F.settings T frame.port frame.index (caught_of frame) v) (sym (ap (λ (S : State). S.tables) made.is.state)) follows)))
