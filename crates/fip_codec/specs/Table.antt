-- The code's values as the definitions have them: the rows of the table of messages, and a descriptor.
use Rattle.std.specs.Prelude.{ℕ, true, List}
use Rattle.fip_codec.specs.Fip.{Descriptor, Name, Solicitation, Advertisement, Request, Reply, KeepAlive, ClearLinks, VlanRequest, VlanNotification}
use Rattle.fip_codec.specs.declared.kind.MessageKind.{MessageKind}
use Rattle.fip_codec.specs.declared.kind.MessageKind.TheVariants as row
use Rattle.fip_codec.specs.declared.descriptor.Descriptor as code

-- the row that the code names so
abbrev pub named : MessageKind → Name
named row.Solicit = Solicitation
named row.Advertise = Advertisement
named row.Login = Request
named row.LoginReply = Reply
named row.Keep = KeepAlive
named row.Clear = ClearLinks
named row.VlanAsk = VlanRequest
named row.VlanTell = VlanNotification

-- a descriptor that was cut off at this place
abbrev pub seen : ℕ → code.Descriptor → Descriptor
seen at d = record { at = at; kind = d.kind; words = d.words; content = d.content.now; whole = true }

-- its type and content
abbrev pub parts : Descriptor → ℕ × List ℕ
parts d = (d.kind, d.content)

abbrev pub code_parts : code.Descriptor → ℕ × List ℕ
code_parts d = (d.kind, d.content.now)
