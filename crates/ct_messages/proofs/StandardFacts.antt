-- Requests and answers byte by byte, as FC-GS-6 lays them out, computed from the definitions.
use Rattle.std.proofs.Common.{◌≡◌, true, false, [], ◌∷◌, ◌++◌, length, Ok, Err, refl}
use Rattle.fab_base.specs.Layout.{zeros}
use Rattle.ct_messages.specs.Ct as ct
use Rattle.ct_messages.specs.Answer as answer
use Rattle.ct_messages.specs.declared.CtFault.TheVariants.{Size}
use Rattle.ct_messages.specs.declared.CtTell.TheVariants.{Addresses, Reject}

-- RFF_ID of address 010203: type 08 has feature 2
feature : ct.decoded (1 ∷ 0 ∷ 0 ∷ 0 ∷ 0xfc ∷ 2 ∷ 0 ∷ 0 ∷ 2 ∷ 0x1f ∷ zeros 6 ++ 0 ∷ 1 ∷ 2 ∷ 3 ∷ 0 ∷ 0 ∷ 2 ∷ 8 ∷ []) ≡ Ok (ct.SetFeature 0x010203 2 8)
unfolding ct.decoded
feature = refl

-- RSPN_ID with a symbol of two bytes, of which one is missing
cut : ct.decoded (1 ∷ 0 ∷ 0 ∷ 0 ∷ 0xfc ∷ 2 ∷ 0 ∷ 0 ∷ 2 ∷ 0x18 ∷ zeros 6 ++ 0 ∷ 1 ∷ 2 ∷ 3 ∷ 2 ∷ 0x61 ∷ []) ≡ Err Size
unfolding ct.decoded
cut = refl

-- a symbol of two bytes is filled up to a word
symbol : ct.written (ct.SetSymbol 0x010203 (0x61 ∷ 0x62 ∷ [])) ≡ 1 ∷ 0 ∷ 0 ∷ 0 ∷ 0xfc ∷ 2 ∷ 0 ∷ 0 ∷ 2 ∷ 0x18 ∷ zeros 6 ++ 0 ∷ 1 ∷ 2 ∷ 3 ∷ 2 ∷ 0x61 ∷ 0x62 ∷ 0 ∷ []
unfolding ct.written
symbol = refl

-- a reject: no such port name
reject : answer.written (Reject 9 2) ≡ 1 ∷ 0 ∷ 0 ∷ 0 ∷ 0xfc ∷ 2 ∷ 0 ∷ 0 ∷ 0x80 ∷ 1 ∷ 0 ∷ 0 ∷ 0 ∷ 9 ∷ 2 ∷ 0 ∷ []
unfolding answer.written
reject = refl

-- the last of two addresses is marked
addresses : answer.written (Addresses (0x010203 ∷ 0x010204 ∷ [])) ≡ 1 ∷ 0 ∷ 0 ∷ 0 ∷ 0xfc ∷ 2 ∷ 0 ∷ 0 ∷ 0x80 ∷ 2 ∷ zeros 6 ++ 0 ∷ 1 ∷ 2 ∷ 3 ∷ 0x80 ∷ 1 ∷ 2 ∷ 4 ∷ []
unfolding answer.written
addresses = refl

-- type 08 is bit 8 of the first word, and its feature has the low bits of the second
has_scsi : answer.has_type (record { 0 = 0x100 ∷ zeros 7 }) 8 ≡ true
has_scsi = refl

has_no_ip : answer.has_type (record { 0 = 0x100 ∷ zeros 7 }) 5 ≡ false
has_no_ip = refl

scsi_target : answer.feature_of (record { 0 = 0 ∷ 0x32 ∷ zeros 30 }) 8 ≡ 2
scsi_target = refl

-- the next port has 620 bytes
next_size : length (answer.next_bytes (record { address = 1; port_name = 2; symbol = 0x61 ∷ []; node_name = 3; node_symbol = []; types = record { 0 = zeros 8 }; fabric_port = 4 })) ≡ 620
next_size = refl
