-- Verdicts in two classes, with what carrying them out takes from the frame. The others are grants, registrations and answers.
use Rattle.std.specs.Prelude.{◌≡◌, ℕ, Ok, option_map}
use Rattle.eth_frames.specs.Ethernet as eth
use Rattle.fcoe_codec.specs.Fcoe as capsule
use Rattle.fab_base.specs.declared.values.Caught.{Caught}
use Rattle.heard_frames.specs.Heard.{Fcoe, decoded, d_id, login_of, sender, source}
use Rattle.fab_policy.specs.Replies.{is_untagged, kind_asked, size_asked}
use Rattle.fab_policy.specs.declared.classes.Replied.{Replied}
use Rattle.fab_policy.specs.declared.classes.Replied.TheVariants as replied
use Rattle.fab_policy.specs.declared.classes.Settled.{Settled}
use Rattle.fab_policy.specs.declared.classes.Settled.TheVariants as settled
use Rattle.fab_policy.specs.declared.verdict.Verdict.{Verdict}
use Rattle.fab_policy.specs.declared.verdict.Verdict.TheVariants.{Vlans, Advertised, Rejected, Logout, AliveNode, AlivePort, NsLogin, NsLogout, Watching, Refused, Noted, Forwarded, Dropped}

-- a verdict that sends a FIP answer, the frame itself, or nothing
abbrev pub of_settled : Settled → Verdict
of_settled (settled.Vlans to untagged) = Vlans
of_settled (settled.Advertised to size) = Advertised
of_settled (settled.AliveNode x) = AliveNode
of_settled (settled.AlivePort a) = AlivePort a
of_settled settled.Noted = Noted
of_settled (settled.Forwarded port to) = Forwarded port
of_settled (settled.Dropped cause) = Dropped cause

-- a verdict that is replied to the sender of the frame
abbrev pub of_replied : Replied → Verdict
of_replied (replied.Rejected login reason explanation) = Rejected reason explanation
of_replied (replied.Logout kind a) = Logout a
of_replied (replied.NsLogin size) = NsLogin
of_replied replied.NsLogout = NsLogout
of_replied (replied.Watching function) = Watching function
of_replied (replied.Refused reason explanation) = Refused reason explanation

-- ---- what they have of a frame that came on a port

-- The frame has a body of FCoE that was read.
abbrev pub HasBody : Caught → Type 0
HasBody caught = (f : eth.Eth) × (x : capsule.Fcoe) × (decoded caught ≡ Fcoe f (Ok x))

-- A settled verdict has the values of the frame: who sent it, how the answer is wanted, and to which address it goes on.
abbrev pub IsSettledFor : ℕ → Caught → Settled → Type 0
IsSettledFor port caught (settled.Vlans to untagged) = (to ≡ source caught) × (untagged ≡ is_untagged caught)
IsSettledFor port caught (settled.Advertised to size) = (to ≡ source caught) × (size ≡ size_asked caught)
IsSettledFor port caught (settled.AliveNode x) = x ≡ sender port caught
IsSettledFor port caught (settled.AlivePort a) = Unit {0}
IsSettledFor port caught settled.Noted = Unit {0}
IsSettledFor port caught (settled.Forwarded q to) = HasBody caught × (to ≡ d_id caught)
IsSettledFor port caught (settled.Dropped cause) = Unit {0}

-- A verdict that is replied has which login in FIP the frame is, if it is one.
abbrev pub IsRepliedFor : Caught → Replied → Type 0
IsRepliedFor caught (replied.Rejected login reason explanation) = login ≡ option_map (λ l. l.0) (login_of caught)
IsRepliedFor caught (replied.Logout kind a) = kind ≡ kind_asked caught
IsRepliedFor caught (replied.NsLogin size) = Unit {0}
IsRepliedFor caught replied.NsLogout = Unit {0}
IsRepliedFor caught (replied.Watching function) = Unit {0}
IsRepliedFor caught (replied.Refused reason explanation) = Unit {0}
