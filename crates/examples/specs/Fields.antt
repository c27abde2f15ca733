-- Every field of a login payload has its place, read and written.
use Rattle.std.specs.Prelude.{◌≡◌, ℕ, List, [], ◌∷◌, ◌++◌, Ok, Err, refl, map}
use Rattle.fab_base.specs.Layout.{zeros}
use Rattle.els_messages.specs.Els as els
use Rattle.els_messages.specs.declared.LoginParms.{LoginParms}
use Rattle.els_messages.specs.declared.ElsFault.TheVariants.{Short}
use Rattle.fab_base.specs.Counting.{counting}

-- 116 bytes: the command, and behind it bytes that rise from 1 on, so that no two fields are alike
abbrev pub payload : ℕ → List ℕ
payload command = command ∷ counting 1 115

abbrev pub parms : LoginParms
parms = record {
  features = 0x0809;
  size = 0x0a0b;
  ra_tov = 0x0c0d0e0f;
  ed_tov = 0x10111213;
  port_name = 0x1415161718191a1b;
  node_name = 0x1c1d1e1f20212223;
  class3 = counting 68 16;
}

pub flogi_is_read : els.decoded (payload 0x04) ≡ Ok (els.Flogi parms)
unfolding els.decoded
flogi_is_read = refl

pub fdisc_is_read : els.decoded (payload 0x51) ≡ Ok (els.Fdisc parms)
unfolding els.decoded
fdisc_is_read = refl

pub plogi_is_read : els.decoded (payload 0x03) ≡ Ok (els.Plogi parms)
unfolding els.decoded
plogi_is_read = refl

pub accept_is_read : els.decoded (payload 0x02) ≡ Ok (els.LoginAccept parms)
unfolding els.decoded
accept_is_read = refl

-- what is written has 2020 as its versions, and zeros for credit, the other classes and the vendor
pub accept_is_written : els.written (els.LoginAccept parms) ≡
    2 ∷ 0 ∷ 0 ∷ 0 ∷ 0x20 ∷ 0x20 ∷ 0 ∷ 0 ∷ counting 8 28 ++ zeros 32 ++ counting 68 16 ++ zeros 32
unfolding els.written
accept_is_written = refl

-- the four high bits of the size's field are none of it
pub size_of_twelve_bits : (els.parms_of (3 ∷ zeros 9 ++ 0xfa ∷ 0xbc ∷ zeros 104)).size ≡ 0x0abc
size_of_twelve_bits = refl

-- one byte fewer is too short for each of the three
pub is_short : map (λ command. els.decoded (command ∷ zeros 114)) (0x04 ∷ 0x51 ∷ 0x03 ∷ []) ≡ Err Short ∷ Err Short ∷ Err Short ∷ []
unfolding els.decoded
is_short = refl

-- a command outside the table needs four bytes
pub other_commands : map els.decoded ((0x10 ∷ zeros 3) ∷ (0x10 ∷ zeros 2) ∷ [] ∷ []) ≡ Ok (els.Other 0x10) ∷ Err Short ∷ Err Short ∷ []
unfolding els.decoded
other_commands = refl

-- the other written payloads
pub logo_is_written : els.written (els.Logo 0x010203 0x1415161718191a1b) ≡ 5 ∷ 0 ∷ 0 ∷ 0 ∷ 0 ∷ 1 ∷ 2 ∷ 3 ∷ counting 0x14 8
unfolding els.written
logo_is_written = refl

pub scr_is_written : els.written (els.Scr 3) ≡ 0x62 ∷ 0 ∷ 0 ∷ 0 ∷ 0 ∷ 0 ∷ 0 ∷ 3 ∷ []
unfolding els.written
scr_is_written = refl

pub reject_is_written : els.written (els.Reject 9 0x29) ≡ 1 ∷ 0 ∷ 0 ∷ 0 ∷ 0 ∷ 9 ∷ 0x29 ∷ 0 ∷ []
unfolding els.written
reject_is_written = refl
