-- What stands between two pieces of a session, and its text: one line a thing, of words with single spaces between them.
use Rattle.std.specs.Prelude.{◌≡◌, ℕ, ◌+◌, ◌<◌, ◌^◌, if◌then◌else◌, IfSome, List, [], ◌∷◌, ◌++◌, flat_map, length, map, Option, Some, None, codes, decimal}
use Rattle.std.specs.Str.{bytes_eq}
use Rattle.fab_base.specs.Fabric.{Past}
use Rattle.fab_base.specs.Texts.{hex, hex_bytes}
use Rattle.fab_config.specs.Settings.{Settings}
use Rattle.ct_messages.specs.Server.{NO_FEATURES}
use Rattle.ct_messages.specs.declared.TypeMap.{TypeMap}
use Rattle.fab_policy.specs.Outputs.{State}
use Rattle.fab_policy.specs.State.{LivePort}
use Rattle.fab_policy.specs.Text.{LINE_FEED, address_word, then_word}
use Rattle.fab_pieces.specs.Sound.{IsSoundState}

-- A seam: what the fabric keeps, how many frames each port had, and the greatest moment of a frame so far.
pub record Seam : Type 0 where
  pub state : State
  pub nexts : List ℕ
  pub greatest : ℕ

-- ---- words

-- a name of 64 bits
abbrev pub name_word : ℕ → List ℕ
name_word n = hex 16 n

-- bytes, and a dash for none
abbrev pub bytes_word : List ℕ → List ℕ
bytes_word [] = codes "-"
bytes_word (b ∷ bytes) = hex_bytes (b ∷ bytes)

-- the words of a type map, eight digits each
abbrev pub types_word : TypeMap → List ℕ
types_word types = flat_map (hex 8) types.0

-- two digits for the features of each type, and a dash where there are none
abbrev pub features_word : List ℕ → List ℕ
features_word features = bytes_word (if bytes_eq features NO_FEATURES then [] else features)

-- a number that may be there
abbrev pub may_word : Option ℕ → List (List ℕ)
may_word None = []
may_word (Some n) = decimal n ∷ []

-- ---- lines

-- the format; the clock and the moment from which the next period of advertisements counts, which are missing before the first
-- tick; how many state changes were sent, modulo 65535; and the greatest moment of a frame
abbrev pub head_rows : Seam → List (List (List ℕ))
head_rows s =
    (codes "state" ∷ codes "1" ∷ [])
    ∷ (codes "clock" ∷ may_word s.state.tables.clock)
    ∷ (codes "advertised" ∷ may_word s.state.advertised)
    ∷ (codes "changes" ∷ decimal s.state.rscns ∷ [])
    ∷ (codes "greatest" ∷ decimal s.greatest ∷ [])
    ∷ []

-- each port with its next index
abbrev pub port_rows : ℕ → List ℕ → List (List (List ℕ))
port_rows p [] = []
port_rows p (next ∷ nexts) = (codes "port" ∷ decimal p ∷ decimal next ∷ []) ∷ port_rows (p + 1) nexts

-- an address that a name had or has, and when its last login ended
abbrev pub past_row : Past → ℕ → List (List ℕ)
past_row q name = codes "address" ∷ address_word q.address ∷ name_word name ∷ may_word q.ended

-- those of all addresses that anybody had
abbrev pub past_rows : List Past → List (List (List ℕ))
past_rows [] = []
past_rows (q ∷ past) = elim (q.name) [ None ↦ past_rows past | Some name ↦ past_row q name ∷ past_rows past ]

-- A live N_Port: address, port name, node name, port and MAC of its ENode, when ENode and N_Port were last heard, the function
-- that it watches by; what it registered: node name, types, features and both symbols; and its receive size at the name server,
-- where it logged in there.
abbrev pub login_row : LivePort → List (List ℕ)
login_row p =
    codes "login" ∷ address_word p.address ∷ name_word p.name ∷ name_word p.node ∷ decimal p.enode.port ∷ bytes_word p.enode.mac
    ∷ decimal p.node_heard ∷ decimal p.port_heard ∷ decimal p.watch
    ∷ name_word p.values.node_name ∷ types_word p.values.types ∷ features_word p.values.features ∷ bytes_word p.values.symbol ∷ bytes_word p.values.node_symbol
    ∷ may_word p.server

abbrev pub rows_of : Seam → List (List (List ℕ))
rows_of s = head_rows s ++ (port_rows 1 s.nexts ++ (past_rows s.state.tables.past ++ map login_row s.state.tables.ports))

-- ---- text

-- what stands behind the first word of a line
abbrev pub rest_text : List (List ℕ) → List ℕ
rest_text [] = LINE_FEED ∷ []
rest_text (w ∷ more) = then_word (w ++ rest_text more)

abbrev pub row_text : List (List ℕ) → List ℕ
row_text [] = []
row_text (w ∷ more) = w ++ rest_text more

unfoldable pub seam_text : Seam → List ℕ
seam_text s = flat_map row_text (rows_of s)

-- ---- ranges

-- numbers of 64 bits
abbrev pub IsLong : ℕ → Type 0
IsLong n = n < 2 ^ 64

-- numbers below a bound
abbrev pub AreBelow : ℕ → List ℕ → Type 0
AreBelow most [] = Unit {0}
AreBelow most (n ∷ ns) = (n < most) × AreBelow most ns

pub record IsRangedPort (p : LivePort) : Type 0 where
  pub address : p.address < 2 ^ 24
  pub name : IsLong p.name
  pub node : IsLong p.node
  pub port : IsLong p.enode.port
  pub mac : AreBelow 256 p.enode.mac
  pub node_heard : IsLong p.node_heard
  pub port_heard : IsLong p.port_heard
  pub watch : IsLong p.watch
  pub node_name : IsLong p.values.node_name
  pub types : AreBelow (2 ^ 32) p.values.types.0
  pub features : AreBelow 256 p.values.features
  pub count : length p.values.features ≡ 256
  pub symbol : AreBelow 256 p.values.symbol
  pub node_symbol : AreBelow 256 p.values.node_symbol
  pub server : IfSome p.server IsLong

abbrev pub ArePorts : List LivePort → Type 0
ArePorts [] = Unit {0}
ArePorts (p ∷ ports) = IsRangedPort p × ArePorts ports

-- addresses, names and moments of pasts; one without a name has no end
pub record IsRangedPast (q : Past) : Type 0 where
  pub address : q.address < 2 ^ 24
  pub name : IfSome q.name IsLong
  pub ended : IfSome q.ended IsLong
  pub plain : q.name ≡ None → q.ended ≡ None

abbrev pub ArePast : List Past → Type 0
ArePast [] = Unit {0}
ArePast (q ∷ past) = IsRangedPast q × ArePast past

-- The numbers of a seam are in the ranges of their types.
pub record IsRangedSeam (s : Seam) : Type 0 where
  pub clock : IfSome s.state.tables.clock IsLong
  pub advertised : IfSome s.state.advertised IsLong
  pub rscns : IsLong s.state.rscns
  pub greatest : IsLong s.greatest
  pub nexts : AreBelow (2 ^ 64) s.nexts
  pub few : length s.nexts < 65
  pub past : ArePast s.state.tables.past
  pub ports : ArePorts s.state.tables.ports

-- ---- the law

-- Seams of one configuration that have one text are the same.
abbrev pub TextNamesSeam : Type 0
TextNamesSeam = (c : Settings) (s t : Seam) → IsSoundState c s.state → IsSoundState c t.state → IsRangedSeam s → IsRangedSeam t → seam_text s ≡ seam_text t → s ≡ t
