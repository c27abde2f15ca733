-- What one entry sends, and when.
use Rattle.std.proofs.Common.{◌≡◌, ℕ, ◌+◌, ◌^◌, ◌<◌, List, [], ◌∷◌, ◌++◌, length, map, Option, Some, None, refl, sym, ap, ◌∙◌, subst, append_assoc, arith}
use Rattle.std.specs.Prelude.{unwrap_or, IfSome}
use Rattle.fab_base.specs.declared.values.Caught.{Caught}
use Rattle.fab_config.specs.Settings.{Settings}
use Rattle.fab_policy.specs.Growing.{records_to}
use Rattle.fab_policy.specs.Journal.{Journal, followed}
use Rattle.fab_policy.specs.Legal.{IsRightEntry}
use Rattle.fab_policy.specs.Outputs.{Sent, State, outputs_by}
use Rattle.fab_policy.specs.Standing.{Contents, Takes, drained, state_after}
use Rattle.fab_policy.specs.State.{Tables, now_of}
use Rattle.fab_policy.specs.Steps.{after}
use Rattle.fab_policy.specs.declared.event.Event.{Event}
use Rattle.fab_policy.specs.declared.event.Event.TheVariants.{Tick, Frame}
use Rattle.fab_policy.specs.declared.verdict.Verdict.{Verdict}
use Rattle.fab_states.specs.States.{LegalFrom, sent_on, state_on}
use Rattle.fab_states.specs.Written.{piece_records}
use Rattle.fab_states.proofs.WrittenLemmas.{records_grow_from}
use Rattle.pcap_file.specs.Capture.{head_bytes}
use Rattle.fab_replay.specs.FrontFrom.{Origin, StandsFrom, capture_from}
use Rattle.fab_sending.specs.Message.{sent_of}
use Rattle.fab_sending.specs.declared.message.Out.{Out}
use Rattle.fab_pages.specs.Pages.{Adds, AreEarly, piece_at}
use Rattle.fab_replay.specs.Owed.{AreSoon, PagesGrow}
use Rattle.fab_replay.specs.Steps.{IsIdle, IsReached, Scene}
use Rattle.fab_replay.specs.declared.lines.Place.{Place}

-- ---- moments

pub early_of : (c : Settings) (events : List Event) (outs : List Out) → AreSoon (map (sent_of c events) outs) → AreEarly outs
early_of c events [] h = tt
early_of c events (o ∷ outs) h = (h.0, early_of c events outs h.1)

at_once : (t : ℕ) (frames : List (ℕ × List ℕ)) → t < 2 ^ 53 → AreSoon (map (λ x. record { port = x.0; moment = t; bytes = x.1 }) frames)
at_once t [] lt = tt
at_once t (x ∷ frames) lt = (lt, at_once t frames lt)

sent_soon : (c : Settings) (n : ℕ) (S : State) (U : Tables) (e : Event) → now_of U < 2 ^ 53 → AreSoon (outputs_by c n S U e)
unfolding outputs_by
sent_soon c n S U e lt = at_once (now_of U) _ lt

-- what an idle fabric has sent once it took an entry
taken_soon : (F G : Contents) (e : Event) → IsIdle F → Takes F e G → now_of G.state.tables < 2 ^ 53 → AreSoon G.outs
taken_soon F G e idle t lt =
    let U = after F.settings F.state.tables e in
    subst AreSoon (sym (t.outs ∙ ap (λ (l : List Sent). l ++ outputs_by F.settings F.count F.state U e) idle.outs))
    (sent_soon F.settings F.count F.state U e (subst (λ (S : State). now_of S.tables < 2 ^ 53) t.state lt))

pub tick_soon : (F G : Contents) (m : ℕ) (ended : List ℕ) → IsIdle F → Takes F (Tick m ended) G → m < 2 ^ 53 → AreSoon G.outs
tick_soon F G m ended idle t lt = taken_soon F G (Tick m ended) idle t (subst (λ (S : State). now_of S.tables < 2 ^ 53) (sym t.state) lt)

pub frame_soon : (F G : Contents) (port index : ℕ) (caught : Caught) (v : Verdict) → IsIdle F → Takes F (Frame port index caught v) G → IfSome F.state.tables.clock (λ t. t < 2 ^ 53) → AreSoon G.outs
frame_soon F G port index caught v idle t early =
    taken_soon F G (Frame port index caught v) idle t (subst (λ (S : State). now_of S.tables < 2 ^ 53) (sym t.state) (now_soon F.state.tables.clock early))
  where
    now_soon : (o : Option ℕ) → IfSome o (λ t. t < 2 ^ 53) → unwrap_or o 0 < 2 ^ 53
    now_soon None h = omega arith
    now_soon (Some t) h = h

-- ---- pages

pub grow_none : (c : Settings) (n : ℕ) (o : Origin) (J : Journal) (pages : List (List ℕ)) → PagesGrow c n o J J pages pages
grow_none c n o J pages = record { count = refl; pages = λ q lt before e. e }

pub grow_more : (c : Settings) (n : ℕ) (o : Origin) (I J K : Journal) (a b d : List (List ℕ)) → PagesGrow c n o I J a b → PagesGrow c n o J K b d → PagesGrow c n o I K a d
grow_more c n o I J K a b d h k = record {
  count = k.count ∙ h.count;
  pages = λ q lt before e. k.pages q (subst (λ (m : ℕ). q < m) (sym h.count) lt) before (h.pages q lt before e);
}

-- what an entry sends behind others
abbrev sent_then : Settings → ℕ → Origin → Journal → Event → List Sent
sent_then c n o J e = outputs_by c n (state_on c o.state J) (after c (state_on c o.state J).tables e) e

one_more : (c : Settings) (n p : ℕ) (o : Origin) (J : Journal) (e : Event) → capture_from c n o p (e ∷ J) ≡ capture_from c n o p J ++ records_to p (sent_then c n o J e)
one_more c n p o J e =
    ap (λ (l : List ℕ). head_bytes ++ l) (records_grow_from c n p o.state J (e ∷ [])) ∙ sym (append_assoc head_bytes (piece_records c n p o.state J) (records_to p (sent_then c n o J e)))

-- what one entry sends stands in the pages
grow_one : (c : Settings) (n : ℕ) (o : Origin) (J : Journal) (e : Event) (old new : List (List ℕ)) → Adds (sent_then c n o J e) old new → PagesGrow c n o J (e ∷ J) old new
grow_one c n o J e old new adds = record {
  count = adds.count;
  pages = λ q lt before is.
      one_more c n (q + 1) o J e ∙ ap (λ (l : List ℕ). l ++ records_to (q + 1) (sent_then c n o J e)) is
      ∙ append_assoc before (piece_at old q) (records_to (q + 1) (sent_then c n o J e)) ∙ ap (λ (l : List ℕ). before ++ l) (sym (adds.pages q lt));
}

-- ---- what a fabric stands for

-- what happened to an idle fabric that took an entry
pub took_one : {F G : Contents} {e : Event} → IsIdle F → Takes F e G → G.events ≡ e ∷ []
took_one {F} {G} {e} idle t = t.events ∙ ap (λ (l : List Event). l ++ e ∷ []) idle.events

-- and what it sent
sent_taken : (o : Origin) (F G : Contents) (e : Event) (J : Journal) → IsIdle F → StandsFrom o F J → Takes F e G → G.outs ≡ sent_then F.settings F.count o J e
sent_taken o F G e J idle s t =
    t.outs ∙ ap (λ (l : List Sent). l ++ outputs_by F.settings F.count F.state (after F.settings F.state.tables e) e) idle.outs
    ∙ ap (λ (S : State). outputs_by F.settings F.count S (after F.settings S.tables e) e) s.state

pub stands_took : (o : Origin) (F G : Contents) (e : Event) (J : Journal) → IsIdle F → StandsFrom o F J → Takes F e G → StandsFrom o G (e ∷ J)
stands_took o F G e J idle s t = record {
  state = t.state ∙ ap (λ (S : State). state_after F.settings S e) s.state ∙ ap (λ (c : Settings). state_on c o.state (e ∷ J)) (sym t.settings);
  older = J;
  events = sym (ap (followed J) (took_one idle t));
  outs = sent_taken o F G e J idle s t
      ∙ (λ i. sent_on (sym t.settings i) (sym t.count i) (state_on (sym t.settings i) o.state J) (e ∷ []))
      ∙ ap (λ (es : List Event). sent_on G.settings G.count (state_on G.settings o.state J) (followed [] es)) (sym (took_one idle t));
}

stands_drained : (o : Origin) (F : Contents) (K : Journal) → StandsFrom o F K → StandsFrom o (drained F) K
stands_drained o F K s = record { state = s.state; older = K; events = refl; outs = refl }

-- an entry that is right by what the fabric keeps is right behind its entries
pub legal_took : (o : Origin) (F : Contents) (e : Event) (J : Journal) → LegalFrom F.settings o.state J → StandsFrom o F J → IsRightEntry F.settings F.state.tables e → LegalFrom F.settings o.state (e ∷ J)
legal_took o F e J legal s right = (legal, subst (λ (S : State). IsRightEntry F.settings S.tables e) s.state right)

-- a fabric that took a right entry and was drained then
pub goes_took : (o : Origin) (F G H : Contents) (e : Event) (J : Journal) → IsIdle F → IsRightEntry F.settings F.state.tables e → Takes F e G → H ≡ drained G →
    LegalFrom F.settings o.state J → StandsFrom o F J → LegalFrom F.settings o.state (e ∷ J) × StandsFrom o H (e ∷ J)
goes_took o F G H e J idle right t is legal stands = (legal_took o F e J legal stands right, subst (λ (E : Contents). StandsFrom o E (e ∷ J)) (sym is) (stands_drained o G (e ∷ J) (stands_took o F G e J idle stands t)))

-- a fabric that took an entry, and what it sent since
pub grow_taken : (o : Origin) (F G : Contents) (e : Event) (J : Journal) (old new : List (List ℕ)) → IsIdle F → Takes F e G → StandsFrom o F J → Adds G.outs old new → PagesGrow F.settings F.count o J (e ∷ J) old new
grow_taken o F G e J old new idle t stands adds = grow_one F.settings F.count o J e old new (subst (λ (l : List Sent). Adds l old new) (sent_taken o F G e J idle stands t) adds)

-- the same by the words of a check
pub legal_there : (x : Scene) (J : Journal) (F : Contents) (p : Place) → IsReached x J F p → LegalFrom F.settings x.from.state J
legal_there x J F p h = subst (λ (c : Settings). LegalFrom c x.from.state J) (sym h.settings) h.front.legal

pub grow_reached : (x : Scene) (J K : Journal) (F : Contents) (p : Place) (old new : List (List ℕ)) → IsReached x J F p → PagesGrow F.settings F.count x.from J K old new → PagesGrow x.settings (length x.records) x.from J K old new
grow_reached x J K F p old new h g = subst (λ (c : Settings). PagesGrow c (length x.records) x.from J K old new) h.settings (subst (λ (n : ℕ). PagesGrow F.settings n x.from J K old new) h.count g)
