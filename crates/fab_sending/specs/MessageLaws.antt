-- Which messages answer a frame, and what stays of messages when entries are added.
use Rattle.std.specs.Prelude.{◌≡◌, ℕ, ◌+◌, true, false, if◌then◌else◌, List, [], ◌∷◌, ◌++◌, length, map, Some, None, Ok, is_some, unwrap_or}
use Rattle.fab_base.specs.declared.values.Caught.{Caught}
use Rattle.fab_config.specs.Settings.{Settings}
use Rattle.eth_frames.specs.Ethernet.{Eth}
use Rattle.fc_frames.specs.Pieces.{pieces}
use Rattle.fcoe_codec.specs.Fcoe as capsule
use Rattle.els_messages.specs.Els as els
use Rattle.ct_messages.specs.Answer as ct
use Rattle.ct_messages.specs.declared.CtTell.{CtTell}
use Rattle.ct_messages.specs.declared.CtTell.TheVariants as tell
use Rattle.heard_frames.specs.Heard.{Fcoe, ask_of, decoded, asked, d_id, login_of, s_id, source}
use Rattle.fab_policy.specs.Outputs.{replies}
use Rattle.fab_policy.specs.Queries.{query}
use Rattle.fab_policy.specs.Replies.{Asker, asker_of, kind_asked, is_untagged, size_asked}
use Rattle.fab_policy.specs.State.{Tables, port_at}
use Rattle.fab_policy.specs.declared.event.Event.{Event}
use Rattle.fab_policy.specs.declared.verdict.Verdict.{Verdict}
use Rattle.fab_policy.specs.declared.verdict.Verdict.TheVariants.{Vlans, Advertised, Granted, Rejected, Logout, NsLogin, NsLogout, Watching, Registered, Answered, Refused, Forwarded}
use Rattle.fab_sending.specs.Message.{bytes_of, can_go_on, can_send, frame_at}
use Rattle.fab_sending.specs.declared.message.Answer.TheVariants.{Accept, Reject, ServerLogin}
use Rattle.fab_sending.specs.declared.message.OutMessage.{OutMessage}
use Rattle.fab_sending.specs.declared.message.OutMessage.TheVariants as out

-- the frames of an answer of the name server, numbered from this one on
abbrev pub numbered : Asker → ℕ → List (List ℕ) → List OutMessage
numbered to count [] = []
numbered to count (l ∷ []) = out.Ct to count true l ∷ []
numbered to count (l ∷ k ∷ more) = out.Ct to count false l ∷ numbered to (count + 1) (k ∷ more)

-- an answer of the name server in frames of at most this size
abbrev pub in_frames : Caught → ℕ → CtTell → List OutMessage
in_frames caught size answer = let l = ct.written answer in numbered (asker_of caught) 0 (pieces (length l) size l)

abbrev pub on : ℕ → List OutMessage → List (ℕ × OutMessage)
on port = map (λ m. (port, m))

-- The messages that answer a frame on its own port, or send it on to another, each with its port; the frame stands in the
-- entry at this place.
abbrev pub messages : Settings → Tables → ℕ → ℕ → Caught → Verdict → List (ℕ × OutMessage)
messages c T port entry caught Vlans = (port, out.Vlans (source caught) (is_untagged caught)) ∷ []
messages c T port entry caught Advertised = (port, out.Solicited (source caught) (size_asked caught)) ∷ []
messages c T port entry caught (Granted a) =
    (port, out.LoginAccept (asker_of caught) (kind_asked caught) port (els.has_feature 0x8000 (asked caught)) a) ∷ []
messages c T port entry caught (Rejected reason explanation) = (
  port,
  (if is_some (login_of caught)
      then out.LoginReply (asker_of caught) (kind_asked caught) (Reject reason explanation)
      else out.ServiceReply (asker_of caught) (Reject reason explanation)),
) ∷ []
messages c T port entry caught (Logout a) = (port, out.LoginReply (asker_of caught) (kind_asked caught) Accept) ∷ []
messages c T port entry caught NsLogin = (port, out.ServiceReply (asker_of caught) ServerLogin) ∷ []
messages c T port entry caught NsLogout = (port, out.ServiceReply (asker_of caught) Accept) ∷ []
messages c T port entry caught (Watching function) = (port, out.ServiceReply (asker_of caught) Accept) ∷ []
messages c T port entry caught Registered = on port (in_frames caught 2112 tell.Done)
messages c T port entry caught (Refused reason explanation) = on port (in_frames caught 2112 (tell.Reject reason explanation))
messages c T port entry caught Answered =
    elim (port_at (s_id caught) T.ports) [
      | None ↦ []
      | Some b ↦ on port (in_frames caught (unwrap_or b.server 2112) (query c T b (ask_of caught)))
    ]
messages c T port entry caught (Forwarded q) = (q, out.Forwarded entry (d_id caught)) ∷ []
messages c T port entry caught _ = []

-- The replies to a frame are the bytes of its messages.
abbrev pub RepliesFit : Type 0
RepliesFit = (c : Settings) (T : Tables) (events : List Event) (port entry : ℕ) (caught : Caught) (v : Verdict)
    → frame_at entry events ≡ Some caught
    → replies c T port caught v ≡ map (λ x. (x.0, bytes_of c events x.1)) (messages c T port entry caught v)

-- What can be sent stays so, with the same bytes, when entries are added.
abbrev pub MessagesAreKept : Type 0
MessagesAreKept = (c : Settings) (es more : List Event) (m : OutMessage)
    → can_send es m ≡ true → (bytes_of c (es ++ more) m ≡ bytes_of c es m) × (can_send (es ++ more) m ≡ true)

-- A frame that was captured whole, with a body of FCoE that can be read, can go on.
abbrev pub DataFramesGoOn : Type 0
DataFramesGoOn = (caught : Caught) (f : Eth) (x : capsule.Fcoe) → decoded caught ≡ Fcoe f (Ok x) → can_go_on (Some caught) ≡ true
