-- Ethernet II frames with at most one tag read (IEEE 802.3, IEEE 802.1Q).
use Rattle.std.specs.Prelude.{◌≡◌, ℕ, ◌-◌, ◌%◌, ◌<◌, nat_lt, ◌==◌, ◌≢◌, Bool, if◌then◌else◌, List, [], ◌++◌, length, drop, Option, Some, None, IfSome, ◌^◌, Result, Ok, Err}
use Rattle.fab_base.specs.Layout.{field, number, spelled, zeros, padded}
use Rattle.eth_frames.specs.declared.EthFrame.{EthFrame}
use Rattle.eth_frames.specs.declared.EthFault.{EthFault}
use Rattle.eth_frames.specs.declared.EthFault.TheVariants.{Short}

-- A frame: destination, source, the 16 bits of its tag if it has one, Ethertype and body.
pub record Eth : Type 0 where
  pub dst : List ℕ
  pub src : List ℕ
  pub tag : Option ℕ
  pub kind : ℕ
  pub body : List ℕ

-- a frame of the code, without where its body lies in memory
abbrev pub view : EthFrame → Eth
view f = record { dst = f.dst; src = f.src; tag = f.tag; kind = f.kind; body = f.body.now }

-- the Ethertype that announces a tag
abbrev pub TAGGED : ℕ
TAGGED = 0x8100

-- the VLAN number of a frame: the low 12 bits of its tag, and 0 without a tag
abbrev pub vlan_of_tag : Option ℕ → ℕ
vlan_of_tag None = 0
vlan_of_tag (Some tag) = tag % 4096

-- the bytes of a tag before the Ethertype
abbrev pub tag_bytes : Option ℕ → List ℕ
tag_bytes None = []
tag_bytes (Some tag) = spelled 2 TAGGED ++ spelled 2 tag

-- destination, source, tag, Ethertype
abbrev pub head_bytes : Eth → List ℕ
head_bytes f = f.dst ++ f.src ++ tag_bytes f.tag ++ spelled 2 f.kind

-- these, then the body, and nothing else
abbrev pub eth_bytes : Eth → List ℕ
eth_bytes f = head_bytes f ++ f.body

-- Each field fits its place, and without a tag the Ethertype isn't that of a tag.
pub record Fits (f : Eth) : Type 0 where
  pub dst : length f.dst ≡ 6
  pub src : length f.src ≡ 6
  pub tag : IfSome f.tag (λ tag. tag < 2 ^ 16)
  pub kind : f.kind < 2 ^ 16
  pub untagged : f.tag ≡ None → f.kind ≢ TAGGED

-- A frame stands so in these bytes.
pub record IsEth (f : Eth) (l : List ℕ) : Type 0 where
  pub fits : Fits f
  pub bytes : l ≡ eth_bytes f

-- whether a tag follows the addresses
abbrev pub has_tag : List ℕ → Bool
has_tag l = number l 12 2 == TAGGED

-- too short for the addresses and the Ethertype, or with a tag for the tag and the Ethertype behind it
abbrev pub is_short : List ℕ → Bool
is_short l = nat_lt (length l) (if has_tag l then 18 else 14)

abbrev pub tagged_frame : List ℕ → Eth
tagged_frame l = record { dst = field l 0 6; src = field l 6 6; tag = Some (number l 14 2); kind = number l 16 2; body = drop 18 l }

abbrev pub plain_frame : List ℕ → Eth
plain_frame l = record { dst = field l 0 6; src = field l 6 6; tag = None; kind = number l 12 2; body = drop 14 l }

-- what reading gives: the frame, or that the bytes are too few
unfoldable pub decoded : List ℕ → Result Eth EthFault
decoded l = if is_short l then Err Short else Ok (if has_tag l then tagged_frame l else plain_frame l)

-- what is written for a frame: its bytes, and zeros up to the least length of a frame without check sequence
abbrev pub written : Eth → List ℕ
written f = padded 60 (eth_bytes f)

-- the zeros behind a frame
abbrev pub pad_of : Eth → List ℕ
pad_of f = zeros (60 - length (eth_bytes f))

-- a frame as it is read back: nothing parts its body from the zeros behind it
abbrev pub with_pad : Eth → Eth
with_pad f = record f { body = f.body ++ pad_of f }
