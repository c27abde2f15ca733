-- The bytes of what is sent, by the values that determine them.
use Rattle.std.specs.Prelude.{ℕ, ◌%◌, Bool, true, false, ◌==◌, nat_le, ◌&&◌, List, [], ◌++◌, length, drop, Option, Some, None, slice_get, option_and_then}
use Rattle.std.specs.List.{AllPass}
use Rattle.std.specs.Option.{option_map_or}
use Rattle.fab_base.specs.declared.values.Caught.{Caught}
use Rattle.fab_config.specs.Settings.{Settings}
use Rattle.els_messages.specs.Els as els
use Rattle.fab_policy.specs.Logins.{granted_mac}
use Rattle.fab_policy.specs.Outputs.{Sent}
use Rattle.fab_policy.specs.Replies.{notice_to, advertised_to, advertised_to_all, accept_to, login_reply_to, service_reply_to, ct_frame, clear_links, rscn, server_parms}
use Rattle.fab_policy.specs.declared.event.Event.{Event}
use Rattle.fab_policy.specs.declared.event.Event.TheVariants.{Tick, Frame}
use Rattle.fab_sending.specs.declared.message.Answer.{Answer}
use Rattle.fab_sending.specs.declared.message.Answer.TheVariants.{Accept, Reject, ServerLogin}
use Rattle.fab_sending.specs.declared.message.Out.{Out}
use Rattle.fab_sending.specs.declared.message.OutMessage.{OutMessage}
use Rattle.fab_sending.specs.declared.message.OutMessage.TheVariants.{Vlans, Solicited, Advertisement, LoginAccept, LoginReply, ServiceReply, Ct, Clear, Rscn, Forwarded}

-- what a link service answers
abbrev pub els_of : Settings → Answer → els.Els
els_of c Accept = els.Accept
els_of c (Reject reason explanation) = els.Reject reason explanation
els_of c ServerLogin = els.LoginAccept (server_parms c)

-- the frame of an entry
abbrev pub caught_in : Event → Option Caught
caught_in (Tick moment ended) = None
caught_in (Frame port index caught verdict) = Some caught

-- the frame of the entry at this place
abbrev pub frame_at : ℕ → List Event → Option Caught
frame_at place events = option_and_then caught_in (slice_get events place)

-- a frame that goes on to an address, with every byte behind its MACs unchanged
abbrev pub sent_on : Settings → ℕ → Option Caught → List ℕ
sent_on c to frame = granted_mac c to ++ c.fcf_mac ++ option_map_or (λ f. drop 12 f.bytes) frame []

-- the bytes of a message; those of a frame that goes on stand in an entry
unfoldable pub bytes_of : Settings → List Event → OutMessage → List ℕ
bytes_of c events (Vlans to untagged) = notice_to c to untagged
bytes_of c events (Solicited to size) = advertised_to c to size
bytes_of c events Advertisement = advertised_to_all c
bytes_of c events (LoginAccept to kind port several address) = accept_to c port to kind several address
bytes_of c events (LoginReply to kind answer) = login_reply_to c to kind (els_of c answer)
bytes_of c events (ServiceReply to answer) = service_reply_to c to (els_of c answer)
bytes_of c events (Ct to count last payload) = ct_frame c to count last payload
bytes_of c events (Clear to ports) = clear_links c to ports
bytes_of c events (Rscn watcher affected ox_id) = rscn c watcher affected ox_id
bytes_of c events (Forwarded entry to) = sent_on c to (frame_at entry events)

-- a payload in whole words that a frame holds (FC-FS-3, "Payload")
abbrev pub is_payload : List ℕ → Bool
is_payload payload = nat_le (length payload) 2112 && (length payload % 4 == 0)

-- an Ethernet frame with its MACs and an Ethertype, of a size that a record of a capture has
abbrev pub can_go_on : Option Caught → Bool
can_go_on frame = option_map_or (λ f. nat_le 14 (length f.bytes) && nat_le (length f.bytes) 65535) frame false

-- What can be written: a payload of the name server that a frame holds, a list of ended N_Ports that a message holds, and a
-- frame that goes on and is one of the entries.
abbrev pub can_send : List Event → OutMessage → Bool
can_send events (Ct to count last payload) = is_payload payload
can_send events (Clear to ports) = nat_le (length ports) 100
can_send events (Forwarded entry to) = can_go_on (frame_at entry events)
can_send events _ = true

-- a frame that is sent, with its bytes
abbrev pub sent_of : Settings → List Event → Out → Sent
sent_of c events out = record { port = out.port; moment = out.moment; bytes = bytes_of c events out.message }

abbrev pub AreSendable : List Event → List Out → Type 0
AreSendable events outs = AllPass (λ out. can_send events out.message) outs
