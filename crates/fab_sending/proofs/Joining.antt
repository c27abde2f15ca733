-- The replies to a frame and its state changes are what the frame sends.
use Rattle.std.proofs.Common.{◌≡◌, ℕ, ◌+◌, ◌*◌, ◌%◌, ◌^◌, ◌≤◌, ◌<◌, true, List, [], ◌∷◌, ◌++◌, length, map, filter, option_to_list, Some, None, IsSome, unwrap_or, refl, sym, ap, subst, ◌∙◌}
use Rattle.std.proofs.lemmas.List.{map-append}
use Rattle.std.proofs.lemmas.List.Elements.{All-nil, All-cons, All-append}
use Rattle.fab_base.specs.declared.values.Caught.{Caught}
use Rattle.fab_config.specs.Settings.{Settings}
use Rattle.ct_messages.specs.Answer.{size_of, written}
use Rattle.ct_messages.specs.Ct.{Ask}
use Rattle.ct_messages.specs.Server as server
use Rattle.ct_messages.specs.declared.CtTell.{CtTell}
use Rattle.fc_frames.specs.Pieces.{pieces}
use Rattle.fab_policy.specs.Classes.{of_settled}
use Rattle.heard_frames.specs.Heard.{ask_of, s_id}
use Rattle.fab_policy.specs.Outputs.{Notice, State}
use Rattle.fab_policy.specs.Queries.{query}
use Rattle.fab_policy.specs.Replies.{Asker, asker_of}
use Rattle.fab_policy.specs.State.{LivePort, Tables, addresses, now_of, overdue, port_at}
use Rattle.fab_policy.specs.Steps.{AreAscending, InPool}
use Rattle.fab_policy.specs.declared.classes.Settled.{Settled}
use Rattle.fab_policy.specs.declared.classes.Settled.TheVariants.{Vlans}
use Rattle.fab_policy.specs.declared.event.Event.{Event}
use Rattle.fab_policy.specs.declared.event.Event.TheVariants.{Tick}
use Rattle.fab_policy.specs.declared.verdict.Verdict.{Verdict}
use Rattle.fab_policy.specs.declared.verdict.Verdict.TheVariants.{Answered}
use Rattle.fab_sending.specs.MessageLaws.{in_frames, messages, numbered, on}
use Rattle.fab_sending.specs.Message.{AreSendable, can_send, frame_at, sent_of}
use Rattle.fab_sending.specs.declared.message.Out.{Out}
use Rattle.fab_sending.specs.declared.message.OutMessage.{OutMessage}
use Rattle.fab_roster.proofs.Found.{some_found}
use Rattle.fab_sending.specs.Laws.{FramesSend, FramesTell, TicksSend, TicksTell}
use Rattle.fab_sending.specs.Messages.{advertisements_owed, at_moment, changes, clears, tick_messages}
use Rattle.fab_sending.specs.Notices.{changed_at, notices_of_frame, notices_of_tick, told_of_each}
use Rattle.fab_sending.specs.Sends.{AreParts, AreSent, FrameSends, state_before}
use Rattle.fab_sending.specs.declared.sends.Before.{Before}
use Rattle.fab_sending.specs.declared.sends.Sends.{Sends}
use Rattle.fab_sending.proofs.AnswerFits.{answer_short}
use Rattle.fab_sending.proofs.Counting.{length-changes}

-- the N_Ports of a roll whose bounds are the pool's
pub in_pool : (c : Settings) (lowest count : ℕ) (ports : List LivePort) → lowest ≡ c.domain * 65536 + 256 → count ≡ c.pool → AreAscending lowest (lowest + count) ports → InPool c ports
in_pool c lowest count ports from many h =
    subst (λ k. AreAscending k (k + c.pool) ports) from (subst (λ k. AreAscending lowest (lowest + k) ports) many h)

-- state changes can be sent
changes_sendable : (events : List Event) (moment n : ℕ) (ns : List Notice) → AreSendable events (at_moment moment (changes n ns))
changes_sendable events moment n [] = All-nil (λ (out : Out). can_send events out.message ≡ true)
changes_sendable events moment n (notice ∷ ns) = All-cons (λ (out : Out). can_send events out.message ≡ true) _ (at_moment moment (changes (n + 1) ns)) refl (changes_sendable events moment (n + 1) ns)

-- frames that can be sent, with state changes behind them
pub all_sendable : (events : List Event) (frames told outs : List Out) (moment n : ℕ) (ns : List Notice) → AreSendable events frames → told ≡ at_moment moment (changes n ns) → outs ≡ frames ++ told → AreSendable events outs
all_sendable events frames told outs moment n ns h is made =
    subst (AreSendable events) (sym (made ∙ ap (λ l. frames ++ l) is))
    (All-append (λ (out : Out). can_send events out.message ≡ true) frames (at_moment moment (changes n ns)) h (changes_sendable events moment n ns))

-- the parts of what a frame sends are what it sends
pub sends_made : FramesSend → FramesTell → (b : Before) (port entry : ℕ) (caught : Caught) (v : Verdict) (replies changed : List Out) (s : Sends) →
    InPool b.config.now b.roster.now.tables.ports → s.outs ≡ replies ++ changed → s.rscns ≡ (b.rscns + length changed) % 65535 → s.rscns < 65535 →
    AreParts b port entry caught v replies changed → FrameSends b port entry caught v s
sends_made send tell b port entry caught v replies changed s pool outs counted few parts =
    let c : Settings = b.config.now in
    let T : Tables = b.roster.now.tables in
    let m : ℕ = now_of T in
    let ms : List (ℕ × OutMessage) = messages c T port entry caught v in
    let ns : List Notice = notices_of_frame c T port caught v in
    let sendable : ((events : List Event) → frame_at entry events ≡ Some caught → AreSendable events s.outs) =
    λ events at. all_sendable events replies changed s.outs m b.rscns ns (parts.sendable events at) parts.changes_are outs in
    record {
      sent = λ index events at follows. record {
        outs = ap (map (sent_of c events)) (outs ∙ ap (λ l. l ++ changed) parts.made ∙ ap (λ l. at_moment m ms ++ l) parts.changes_are ∙ sym (map-append _ ms (changes b.rscns ns)))
            ∙ send c b.ports (state_before b) port index entry caught v events pool follows at;
        rscns = counted ∙ ap (λ k. (b.rscns + k) % 65535) (ap length parts.changes_are ∙ length-changes m b.rscns ns ∙ ap length (sym (tell c T port index caught v pool follows)));
        sendable = sendable events at;
      };
      sendable = sendable;
      few = few;
    }

-- ---- verdicts that need nothing else

module _ (c : Settings) (T : Tables) (port : ℕ) (caught : Caught) where
  -- a settled one changes nothing that is told
  pub settled_tells : (v : Settled) → [] ≡ notices_of_frame c T port caught (of_settled v)
  settled_tells (Vlans to untagged) = refl
  settled_tells _ = refl

-- the frames of an answer to a live N_Port
pub answer_frames : (c : Settings) (T : Tables) (port entry size a : ℕ) (caught : Caught) (tell : CtTell) → a ≡ s_id caught → IsSome (port_at a T.ports) →
    ((b : LivePort) → port_at a T.ports ≡ Some b → tell ≡ query c T b (ask_of caught)) → ((b : LivePort) → port_at a T.ports ≡ Some b → size ≡ unwrap_or b.server 2112) →
    on port (in_frames caught size tell) ≡ messages c T port entry caught Answered
answer_frames c T port entry size a caught tell is live told asked =
    let b = some_found (port_at a T.ports) live in
    ap (λ n. on port (in_frames caught n tell)) (asked b.0 b.1) ∙ ap (λ x. on port (in_frames caught (unwrap_or b.0.server 2112) x)) (told b.0 b.1)
    ∙ sym (ap (λ o. elim o as (λ _. List (ℕ × OutMessage)) [ None ↦ [] | Some p ↦ on port (in_frames caught (unwrap_or p.server 2112) (query c T p (ask_of caught))) ]) (ap (λ x. port_at x T.ports) (sym is) ∙ b.1))

-- ---- at the clock

pub at_clock : (m n : ℕ) (ms : List (ℕ × OutMessage)) (outs : List Out) → m ≡ n → outs ≡ at_moment m ms → outs ≡ at_moment n ms
at_clock m n ms outs e made = made ∙ ap (λ k. at_moment k ms) e

-- the frames of an answer to whom asked
pub answer_at : (m n port size : ℕ) (caught : Caught) (tell : CtTell) (to : Asker) (outs : List Out) → m ≡ n → to ≡ asker_of caught →
    outs ≡ at_moment m (on port (numbered to 0 (pieces (length (written tell)) size (written tell)))) → outs ≡ at_moment n (on port (in_frames caught size tell))
answer_at m n port size caught tell to outs e is made =
    at_clock m n (on port (numbered to 0 (pieces (length (written tell)) size (written tell)))) outs e made
    ∙ ap (λ t. at_moment n (on port (numbered t 0 (pieces (length (written tell)) size (written tell))))) is

-- the state changes of a registration of the frame's sender
pub registered_told : (c : Settings) (T : Tables) (first a : ℕ) (caught : Caught) (ask : Ask) (outs : List Out) → a ≡ s_id caught → ask ≡ ask_of caught →
    outs ≡ at_moment (now_of T) (changes first (told_of_each c T [] (filter (λ p. server.has_changed p.values (server.after p.node ask p.values)) (option_to_list (port_at a T.ports))))) →
    outs ≡ at_moment (now_of T) (changes first (told_of_each c T [] (changed_at T caught)))
registered_told c T first a caught ask outs is asks made =
    made
    ∙ ap (λ x. at_moment (now_of T) (changes first (told_of_each c T [] (filter (λ p. server.has_changed p.values (server.after p.node ask p.values)) (option_to_list (port_at x T.ports)))))) is
    ∙ ap (λ x. at_moment (now_of T) (changes first (told_of_each c T [] (filter (λ p. server.has_changed p.values (server.after p.node x p.values)) (option_to_list (port_at (s_id caught) T.ports)))))) asks

-- ---- a tick

abbrev pub sends_of : List Out → ℕ → Sends
sends_of outs rscns = record { outs = outs; rscns = rscns }

-- clear link messages, state changes and advertisements are what a tick sends
pub tick_sent : TicksSend → TicksTell → (c : Settings) (n : ℕ) (S : State) (m : ℕ) (ended : List ℕ) (events : List Event) (s : Sends) (cleared told advertised mid : List Out) →
    InPool c S.tables.ports → ended ≡ addresses (overdue c S.tables m) →
    cleared ≡ at_moment m (clears c (overdue c S.tables m)) → told ≡ at_moment m (changes S.rscns (notices_of_tick c S.tables m)) → advertised ≡ at_moment m (advertisements_owed c n S.advertised m) →
    mid ≡ cleared ++ told → s.outs ≡ mid ++ advertised → s.rscns ≡ (S.rscns + length told) % 65535 →
    AreSendable events cleared → AreSendable events advertised → AreSent c n S (Tick m ended) events s
tick_sent send tell c n S m ended events s cleared told advertised mid asc ends clears_made told_made adverts_made first last counted clears_ok adverts_ok =
    let xs : List (ℕ × OutMessage) = clears c (overdue c S.tables m) in
    let ns : List Notice = notices_of_tick c S.tables m in
    let ys : List (ℕ × OutMessage) = changes S.rscns ns in
    let zs : List (ℕ × OutMessage) = advertisements_owed c n S.advertised m in
    let all : s.outs ≡ at_moment m (tick_messages c n S m) =
    last ∙ ap (λ l. l ++ advertised) (first ∙ ap (λ l. l ++ told) clears_made ∙ ap (λ l. at_moment m xs ++ l) told_made ∙ sym (map-append _ xs ys))
    ∙ ap (λ l. at_moment m (xs ++ ys) ++ l) adverts_made ∙ sym (map-append _ (xs ++ ys) zs) in
    subst (λ ids. AreSent c n S (Tick m ids) events s) (sym ends) (record {
      outs = ap (map (sent_of c events)) all ∙ send c n S m events asc;
      rscns = counted ∙ ap (λ k. (S.rscns + k) % 65535) (ap length told_made ∙ length-changes m S.rscns ns ∙ ap length (sym (tell c S.tables m asc)));
      sendable = subst (AreSendable events) (sym last)
          (All-append (λ (out : Out). can_send events out.message ≡ true) mid advertised (all_sendable events cleared told mid m S.rscns ns clears_ok told_made first) adverts_ok);
    })

-- an answer to a live N_Port is short enough to be cut
pub answer_fits : (c : Settings) (T : Tables) (a : ℕ) (tell : CtTell) → IsSome (port_at a T.ports) →
    ((b : LivePort) → port_at a T.ports ≡ Some b → (ask : Ask) × (tell ≡ query c T b ask)) → length T.ports ≤ 65535 → size_of tell ≤ 2 ^ 20
answer_fits c T a tell live told few =
    let b = some_found (port_at a T.ports) live in
    let is = told b.0 b.1 in
    subst (λ x. size_of x ≤ 2 ^ 20) (sym is.1) (answer_short c T b.0 is.0 few)
