-- Replies as the bytes of messages.
use Rattle.std.proofs.Common.{◌≡◌, ℕ, ◌+◌, true, false, Bool, if◌then◌else◌, List, [], ◌∷◌, map, Option, Some, None, is_some, unwrap_or, refl, sym, ap}
use Rattle.fab_base.specs.declared.values.Caught.{Caught}
use Rattle.fab_config.specs.Settings.{Settings}
use Rattle.els_messages.specs.Els as els
use Rattle.heard_frames.specs.Heard.{ask_of, d_id, login_of, s_id}
use Rattle.fab_policy.specs.Queries.{query}
use Rattle.fab_policy.specs.Replies.{Asker, asker_of, kind_asked, ct_frames, ct_frame, ct_reply, login_reply, service_reply}
use Rattle.fab_policy.specs.State.{Tables, LivePort, port_at}
use Rattle.fab_policy.specs.declared.event.Event.{Event}
use Rattle.fab_policy.specs.declared.verdict.Verdict.TheVariants.{Vlans, Advertised, Granted, Rejected, Logout, NsLogin, NsLogout, Watching, Registered, Answered, Refused, Forwarded}
use Rattle.fab_sending.specs.MessageLaws.{RepliesFit, numbered, in_frames, on}
use Rattle.fab_sending.specs.Message.{bytes_of, sent_on}
use Rattle.fab_sending.specs.declared.message.Answer.TheVariants.{Reject}
use Rattle.fab_sending.specs.declared.message.OutMessage.{OutMessage}
use Rattle.fab_sending.specs.declared.message.OutMessage.TheVariants as out

abbrev bytes_in : Settings → List Event → ℕ × OutMessage → ℕ × List ℕ
bytes_in c events x = (x.0, bytes_of c events x.1)

-- frames of an answer, each on a port
frames_fit : (c : Settings) (events : List Event) (port : ℕ) (to : Asker) (count : ℕ) (ls : List (List ℕ)) →
    map (λ l. (port, l)) (ct_frames c to count ls) ≡ map (bytes_in c events) (on port (numbered to count ls))
unfolding bytes_of
frames_fit c events port to count [] = refl
frames_fit c events port to count (l ∷ []) = refl
frames_fit c events port to count (l ∷ k ∷ more) = ap (λ r. (port, ct_frame c to count false l) ∷ r) (frames_fit c events port to (count + 1) (k ∷ more))

rejected_fit : (c : Settings) (events : List Event) (port : ℕ) (caught : Caught) (r e : ℕ) (login : Bool) →
    (port, (if login then login_reply c caught (els.Reject r e) else service_reply c caught (els.Reject r e)))
    ≡ bytes_in c events (port, (if login then out.LoginReply (asker_of caught) (kind_asked caught) (Reject r e) else out.ServiceReply (asker_of caught) (Reject r e)))
unfolding bytes_of
rejected_fit c events port caught r e true = refl
rejected_fit c events port caught r e false = refl

-- the replies to a query and its messages, by the N_Port that asks
abbrev replies_to : Settings → Tables → ℕ → Caught → Option LivePort → List (ℕ × List ℕ)
replies_to c T port caught asker =
    elim asker [
      | None ↦ []
      | Some b ↦ map (λ l. (port, l)) (ct_reply c caught (unwrap_or b.server 2112) (query c T b (ask_of caught)))
    ]

abbrev messages_to : Settings → Tables → ℕ → Caught → Option LivePort → List (ℕ × OutMessage)
messages_to c T port caught asker =
    elim asker [
      | None ↦ []
      | Some b ↦ on port (in_frames caught (unwrap_or b.server 2112) (query c T b (ask_of caught)))
    ]

answers_fit : (c : Settings) (T : Tables) (events : List Event) (port : ℕ) (caught : Caught) (asker : Option LivePort) →
    replies_to c T port caught asker ≡ map (bytes_in c events) (messages_to c T port caught asker)
answers_fit c T events port caught None = refl
answers_fit c T events port caught (Some b) = frames_fit c events port _ 0 _

pub fits : RepliesFit
unfolding bytes_of
fits c T events port entry caught Vlans h = refl
fits c T events port entry caught Advertised h = refl
fits c T events port entry caught (Granted a) h = refl
fits c T events port entry caught (Rejected r e) h = ap (λ x. x ∷ []) (rejected_fit c events port caught r e (is_some (login_of caught)))
fits c T events port entry caught (Logout a) h = refl
fits c T events port entry caught NsLogin h = refl
fits c T events port entry caught NsLogout h = refl
fits c T events port entry caught (Watching function) h = refl
fits c T events port entry caught Registered h = frames_fit c events port _ 0 _
fits c T events port entry caught (Refused r e) h = frames_fit c events port _ 0 _
fits c T events port entry caught Answered h = answers_fit c T events port caught (port_at (s_id caught) T.ports)
fits c T events port entry caught (Forwarded q) h = ap (λ o. (q, sent_on c (d_id caught) o) ∷ []) (sym h)
fits c T events port entry caught _ h = refl
