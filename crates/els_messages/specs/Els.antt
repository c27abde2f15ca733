-- Payloads of extended link services (FC-LS-2, "Extended Link Services").
use Rattle.std.specs.Prelude.{◌≡◌, ℕ, ◌+◌, ◌-◌, ◌/◌, ◌%◌, ◌^◌, ◌<◌, ◌≤◌, min, Bool, ◌==◌, nat_le, nat_lt, ◌&&◌, not, if◌then◌else◌, List, [], ◌∷◌, ◌++◌, length, Option, Some, None, Result, Ok, Err}
use Rattle.fab_base.specs.Layout.{field, byte, number, spelled, zeros}
use Rattle.els_messages.specs.Table.{Command, FLOGI, FDISC, PLOGI, LS_ACC, LS_RJT, LOGO, SCR, RSCN, code, least, LOGIN_BYTES, command_of}
use Rattle.els_messages.specs.declared.LoginParms.{LoginParms}
use Rattle.els_messages.specs.declared.parms.Feature.{Feature}
use Rattle.els_messages.specs.declared.parms.Feature.TheVariants.{MultipleNPortIds, MultipleNPortIdsGranted, FPort}
use Rattle.els_messages.specs.declared.Els as rust
use Rattle.els_messages.specs.declared.Els.TheVariants as variants
use Rattle.els_messages.specs.declared.ElsFault.{ElsFault}
use Rattle.els_messages.specs.declared.ElsFault.TheVariants.{Short, Page}

-- A payload: pages are bytes, four for each.
pub data Els : Type 0 where
  Flogi : (parms : LoginParms) → Els
  Fdisc : (parms : LoginParms) → Els
  Plogi : (parms : LoginParms) → Els
  Logo : (address name : ℕ) → Els
  Scr : (function : ℕ) → Els
  Rscn : (pages : List ℕ) → Els
  LoginAccept : (parms : LoginParms) → Els
  Accept : Els
  Reject : (reason explanation : ℕ) → Els
  Other : (command : ℕ) → Els

-- a payload of the code, without where its pages lie in memory
abbrev pub view : rust.Els → Els
view (variants.Flogi parms) = Flogi parms
view (variants.Fdisc parms) = Fdisc parms
view (variants.Plogi parms) = Plogi parms
view (variants.Logo address name) = Logo address name
view (variants.Scr function) = Scr function
view (variants.Rscn pages) = Rscn pages.now
view (variants.LoginAccept parms) = LoginAccept parms
view variants.Accept = Accept
view (variants.Reject reason explanation) = Reject reason explanation
view (variants.Other command) = Other command

-- ---- the login payload ("FLOGI", "PLOGI", "LS_ACC")

-- Command 4; versions 2, credit 2, features 2, receive size in the low 12 bits of 2, R_A_TOV 4, E_D_TOV 4; port name 8;
-- node name 8; class 1, 2, 3 and auxiliary parameters 16 each; vendor 16.
abbrev pub parms_of : List ℕ → LoginParms
parms_of l = record {
  features = number l 8 2;
  size = number l 10 2 % 4096;
  ra_tov = number l 12 4;
  ed_tov = number l 16 4;
  port_name = number l 20 8;
  node_name = number l 28 8;
  class3 = field l 68 16;
}

-- Class 3 is offered where the top bit of its parameters is set.
abbrev pub offers_class3 : LoginParms → Bool
offers_class3 p = nat_le 128 (byte p.class3 0)

-- a feature, given by the value of its bit
abbrev pub has_feature : ℕ → LoginParms → Bool
has_feature feature p = p.features / feature % 2 == 1

-- the bits of the common features: several addresses are asked for, they are granted, a port of the fabric
abbrev pub bit_of : Feature → ℕ
bit_of MultipleNPortIds = 0x8000
bit_of MultipleNPortIdsGranted = 0x2000
bit_of FPort = 0x1000

-- the command with three zeros, and the parameters; the versions are 2020
abbrev pub login_bytes : ℕ → LoginParms → List ℕ
login_bytes command p =
    command ∷ zeros 3 ++ 0x20 ∷ 0x20 ∷ zeros 2 ++ spelled 2 p.features ++ spelled 2 p.size ++ spelled 4 p.ra_tov ++ spelled 4 p.ed_tov
    ++ spelled 8 p.port_name ++ spelled 8 p.node_name ++ zeros 32 ++ p.class3 ++ zeros 32

-- The receive size that a login to a service stands for: at most 2112, and a multiple of 4.
abbrev pub receive_size : LoginParms → ℕ
receive_size p = let size = min p.size 2112 in size - size % 4

-- ---- reading

-- the bytes that a payload with this first byte needs
abbrev pub bytes_needed : ℕ → ℕ
bytes_needed command = elim (command_of command) [ Some row ↦ least row | None ↦ 4 ]

-- the length field of an RSCN: these four bytes and the pages
abbrev pub rscn_length : List ℕ → ℕ
rscn_length l = number l 2 2

-- pages of four bytes, at least one, and all of them there
abbrev pub has_pages : List ℕ → Bool
has_pages l = byte l 1 == 4 && nat_le 8 (rscn_length l) && rscn_length l % 4 == 0 && nat_le (rscn_length l) (length l)

-- what the bytes of a command say
abbrev pub said : Command → List ℕ → Els
said FLOGI l = Flogi (parms_of l)
said FDISC l = Fdisc (parms_of l)
said PLOGI l = Plogi (parms_of l)
said LS_ACC l = if nat_le LOGIN_BYTES (length l) then LoginAccept (parms_of l) else Accept
said LS_RJT l = Reject (byte l 5) (byte l 6)
said LOGO l = Logo (number l 5 3) (number l 8 8)
said SCR l = Scr (byte l 7)
said RSCN l = Rscn (field l 4 (rscn_length l - 4))

-- what a payload with enough bytes is
abbrev pub payload_of : List ℕ → Els
payload_of l = elim (command_of (byte l 0)) [ Some row ↦ said row l | None ↦ Other (byte l 0) ]

-- fewer bytes than the row of the first byte needs, which are four at least
abbrev pub is_short : List ℕ → Bool
is_short l = nat_lt (length l) (bytes_needed (byte l 0))

-- an RSCN without its pages
abbrev pub lacks_pages : List ℕ → Bool
lacks_pages l = byte l 0 == code RSCN && not (has_pages l)

-- the tests of reading, in their order, and else the payload
unfoldable pub decoded : List ℕ → Result Els ElsFault
decoded l =
    if is_short l then Err Short
    else if lacks_pages l then Err Page
    else Ok (payload_of l)

-- ---- the layouts, a case a row

-- a payload of this command, with the bytes that its row needs
pub record IsOf (row : Command) (l : List ℕ) : Type 0 where
  pub first : byte l 0 ≡ code row
  pub enough : least row ≤ length l

-- pages that an RSCN can have
pub record ArePages (pages : List ℕ) : Type 0 where
  pub some : 0 < length pages
  pub words : length pages % 4 ≡ 0

-- an RSCN's page length and length field, and its pages behind them
pub record HoldsPages (pages l : List ℕ) : Type 0 where
  pub page_length : byte l 1 ≡ 4
  pub whole_length : rscn_length l ≡ 4 + length pages
  pub here : field l 4 (length pages) ≡ pages

-- A payload stands so in bytes. Reserved bytes are free, and so are those behind what a row needs; an LS_ACC with as
-- many bytes as a login payload is one.
abbrev pub IsEls : Els → List ℕ → Type 0
IsEls (Flogi parms) l = IsOf FLOGI l × (parms_of l ≡ parms)
IsEls (Fdisc parms) l = IsOf FDISC l × (parms_of l ≡ parms)
IsEls (Plogi parms) l = IsOf PLOGI l × (parms_of l ≡ parms)
IsEls (LoginAccept parms) l = IsOf LS_ACC l × (LOGIN_BYTES ≤ length l) × (parms_of l ≡ parms)
IsEls Accept l = IsOf LS_ACC l × (length l < LOGIN_BYTES)
IsEls (Reject reason explanation) l = IsOf LS_RJT l × (byte l 5 ≡ reason) × (byte l 6 ≡ explanation)
IsEls (Logo address name) l = IsOf LOGO l × (number l 5 3 ≡ address) × (number l 8 8 ≡ name)
IsEls (Scr function) l = IsOf SCR l × (byte l 7 ≡ function)
IsEls (Rscn pages) l = IsOf RSCN l × ArePages pages × HoldsPages pages l
IsEls (Other command) l = (byte l 0 ≡ command) × (command_of command ≡ None) × (4 ≤ length l)

-- the login parameters of a payload that has some
abbrev pub parms_in : Els → Option LoginParms
parms_in (Flogi parms) = Some parms
parms_in (Fdisc parms) = Some parms
parms_in (Plogi parms) = Some parms
parms_in (LoginAccept parms) = Some parms
parms_in _ = None

-- ---- writing

-- the one spelling of each payload: reserved bytes and the bytes of the other classes are 0
unfoldable pub written : Els → List ℕ
written (Flogi parms) = login_bytes (code FLOGI) parms
written (Fdisc parms) = login_bytes (code FDISC) parms
written (Plogi parms) = login_bytes (code PLOGI) parms
written (LoginAccept parms) = login_bytes (code LS_ACC) parms
written Accept = code LS_ACC ∷ zeros 3
written (Reject reason explanation) = code LS_RJT ∷ zeros 4 ++ reason ∷ explanation ∷ 0 ∷ []
written (Logo address name) = code LOGO ∷ zeros 4 ++ spelled 3 address ++ spelled 8 name
written (Scr function) = code SCR ∷ zeros 6 ++ function ∷ []
written (Rscn pages) = code RSCN ∷ 4 ∷ spelled 2 (4 + length pages) ++ pages
written (Other command) = command ∷ zeros 3

-- how many bytes that are
abbrev pub written_length : Els → ℕ
written_length (Flogi parms) = LOGIN_BYTES
written_length (Fdisc parms) = LOGIN_BYTES
written_length (Plogi parms) = LOGIN_BYTES
written_length (LoginAccept parms) = LOGIN_BYTES
written_length Accept = 4
written_length (Reject reason explanation) = 8
written_length (Logo address name) = 16
written_length (Scr function) = 8
written_length (Rscn pages) = 4 + length pages
written_length (Other command) = 4

-- What may be written: a command of the table, a receive size of 12 bits, and pages of at most 1020 bytes.
abbrev pub CanWrite : Els → Type 0
CanWrite (Flogi parms) = parms.size < 4096
CanWrite (Fdisc parms) = parms.size < 4096
CanWrite (Plogi parms) = parms.size < 4096
CanWrite (LoginAccept parms) = parms.size < 4096
CanWrite Accept = Unit {0}
CanWrite (Reject reason explanation) = Unit {0}
CanWrite (Logo address name) = Unit {0}
CanWrite (Scr function) = Unit {0}
CanWrite (Rscn pages) = ArePages pages × (length pages ≤ 1020)
CanWrite (Other command) = ⊥

-- what the types of the code keep of login parameters
pub record AreTyped (p : LoginParms) : Type 0 where
  pub features : p.features < 2 ^ 16
  pub ra_tov : p.ra_tov < 2 ^ 32
  pub ed_tov : p.ed_tov < 2 ^ 32
  pub port_name : p.port_name < 2 ^ 64
  pub node_name : p.node_name < 2 ^ 64
  pub class3 : length p.class3 ≡ 16

-- what they keep of a payload
abbrev pub IsTyped : Els → Type 0
IsTyped (Flogi parms) = AreTyped parms
IsTyped (Fdisc parms) = AreTyped parms
IsTyped (Plogi parms) = AreTyped parms
IsTyped (LoginAccept parms) = AreTyped parms
IsTyped Accept = Unit {0}
IsTyped (Reject reason explanation) = Unit {0}
IsTyped (Logo address name) = (address < 2 ^ 24) × (name < 2 ^ 64)
IsTyped (Scr function) = Unit {0}
IsTyped (Rscn pages) = Unit {0}
IsTyped (Other command) = Unit {0}

-- What may stand behind a written payload: anything, but behind a short accept less than makes a login payload of it.
abbrev pub MayFollow : Els → List ℕ → Type 0
MayFollow Accept more = length more < 112
MayFollow _ more = Unit {0}
