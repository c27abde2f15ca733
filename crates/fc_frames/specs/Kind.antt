-- What a frame carries, by R_CTL and TYPE (FC-FS-3, "R_CTL" and "TYPE").
use Rattle.std.specs.Prelude.{ℕ, Bool, ◌==◌, ◌&&◌}
use Rattle.fc_frames.specs.declared.FcHeader.{FcHeader}
use Rattle.fc_frames.specs.declared.kind.Kind.{Kind}
use Rattle.fc_frames.specs.declared.kind.Kind.TheVariants.{ElsRequest, ElsReply, CtRequest, CtReply, FcpData}

-- its R_CTL
abbrev pub r_ctl_of : Kind → ℕ
r_ctl_of ElsRequest = 0x22
r_ctl_of ElsReply = 0x23
r_ctl_of CtRequest = 0x02
r_ctl_of CtReply = 0x03
r_ctl_of FcpData = 0x01

-- its TYPE
abbrev pub type_of : Kind → ℕ
type_of ElsRequest = 0x01
type_of ElsReply = 0x01
type_of CtRequest = 0x20
type_of CtReply = 0x20
type_of FcpData = 0x08

-- a header is of this kind
abbrev pub has_kind : Kind → FcHeader → Bool
has_kind kind h = h.r_ctl == r_ctl_of kind && h.kind == type_of kind
