-- Answers of the name server: one that is cut, and a refusal.
use Rattle.std.specs.Prelude.{◌≡◌, ℕ, ◌+◌, ◌-◌, List, [], ◌∷◌, ◌++◌, refl, map, length}
use Rattle.fab_base.specs.Layout.{field}
use Rattle.fab_base.specs.declared.values.Caught.{Caught}
use Rattle.fc_check.specs.Crc as crc
use Rattle.fcoe_codec.specs.Fcoe as capsule
use Rattle.eth_frames.specs.Ethernet as eth
use Rattle.ct_messages.specs.Ct as ct
use Rattle.ct_messages.specs.Answer as answer
use Rattle.ct_messages.specs.declared.CtTell.TheVariants.{Addresses, Reject}
use Rattle.heard_frames.specs.Heard as heard
use Rattle.fab_base.specs.Counting.{counting}
use Rattle.fab_policy.specs.Replies as replies
use Rattle.examples.specs.Given.{K, in_vlan, mac_of, data_head}

-- a request of the common transport
abbrev pub asked : Caught
asked = in_vlan (mac_of 0x010100) 0x8906
    (capsule.written (record { sof = 0x2e; eof = 0x42; frame = record { head = record (data_head 0x010100 0xfffffc) { r_ctl = 2; kind = 0x20 }; payload = ct.written (ct.AddressesOfType 8) } }))

-- the addresses of 70 ports in frames of 256 bytes
abbrev pub frames : List (List ℕ)
frames = replies.ct_reply K asked 256 (Addresses (counting 0x010100 70))

-- the bytes of each frame behind the addresses, the tag, the Ethertype and the head of FCoE: SOF, header without addresses
pub lengths : map (λ l. length l - (18 + 14 + 24 + 8)) frames ≡ 256 ∷ 40 ∷ []
unfolding heard.carried eth.decoded capsule.written ct.written answer.written crc.crc crc.remainder
lengths = refl

pub delimiters : map (λ l. field l 31 1 ++ field l (length l - 4) 1) frames ≡ (0x2e ∷ 0x41 ∷ []) ∷ (0x36 ∷ 0x42 ∷ []) ∷ []
unfolding heard.carried eth.decoded capsule.written ct.written answer.written crc.crc crc.remainder
delimiters = refl

-- F_CTL and SEQ_CNT
pub controls : map (λ l. field l 41 3 ++ field l 46 2) frames ≡ (0x90 ∷ 0 ∷ 0 ∷ 0 ∷ 0 ∷ []) ∷ (0x98 ∷ 0 ∷ 0 ∷ 0 ∷ 1 ∷ []) ∷ []
unfolding heard.carried eth.decoded capsule.written ct.written answer.written crc.crc crc.remainder
controls = refl

-- the last entries
pub entries : map (λ l. field l (length l - 16) 8) frames ≡ (0 ∷ 1 ∷ 1 ∷ 0x3a ∷ 0 ∷ 1 ∷ 1 ∷ 0x3b ∷ []) ∷ (0 ∷ 1 ∷ 1 ∷ 0x44 ∷ 0x80 ∷ 1 ∷ 1 ∷ 0x45 ∷ []) ∷ []
unfolding heard.carried eth.decoded capsule.written ct.written answer.written crc.crc crc.remainder
entries = refl

pub refused : answer.written (Reject 9 2) ≡ 1 ∷ 0 ∷ 0 ∷ 0 ∷ 0xfc ∷ 2 ∷ 0 ∷ 0 ∷ 0x80 ∷ 1 ∷ 0 ∷ 0 ∷ 0 ∷ 9 ∷ 2 ∷ 0 ∷ []
unfolding answer.written
refused = refl
