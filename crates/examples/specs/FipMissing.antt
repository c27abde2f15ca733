-- A FIP message without what it must have: the first missing descriptor in the order of its row is named.
use Rattle.std.specs.Prelude.{◌≡◌, ℕ, ◌/◌, List, [], ◌∷◌, ◌++◌, length, map, Result, Err, refl}
use Rattle.fab_base.specs.Layout.{zeros, spelled}
use Rattle.fip_codec.specs.Message.{Fip}
use Rattle.fip_codec.specs.Reading.{decoded}
use Rattle.fip_codec.specs.declared.fault.FipFault.{FipFault}
use Rattle.fip_codec.specs.declared.fault.FipFault.TheVariants.{Operation, Missing, Double}

-- a message of version 1 with these descriptors
abbrev pub body : ℕ → ℕ → List ℕ → List ℕ
body operation subcode list = 0x10 ∷ 0 ∷ spelled 2 operation ++ 0 ∷ subcode ∷ spelled 2 (length list / 4) ++ zeros 2 ++ list

-- descriptors of zeros, each with its type and its words
abbrev pub priority : List ℕ
priority = 1 ∷ 1 ∷ zeros 2

abbrev pub mac : List ℕ
mac = 2 ∷ 2 ∷ zeros 6

abbrev pub name : List ℕ
name = 4 ∷ 3 ∷ zeros 10

abbrev pub fabric : List ℕ
fabric = 5 ∷ 4 ∷ zeros 14

abbrev pub size : List ℕ
size = 6 ∷ 1 ∷ zeros 2

abbrev pub frame_of : ℕ → List ℕ
frame_of kind = kind ∷ 7 ∷ zeros 26

abbrev pub vn_port : List ℕ
vn_port = 11 ∷ 5 ∷ zeros 18

abbrev pub advertising : List ℕ
advertising = 12 ∷ 2 ∷ zeros 6

-- the faults of messages of one kind with these lists
abbrev pub faults : ℕ → ℕ → List (List ℕ) → List (Result Fip FipFault)
faults operation subcode lists = map (λ list. decoded (body operation subcode list)) lists

abbrev pub misses : List ℕ → List (Result Fip FipFault)
misses kinds = map (λ kind. Err (Missing kind)) kinds

pub solicitation : faults 1 1 ([] ∷ mac ∷ (name ++ size) ∷ (mac ++ size) ∷ (mac ++ name) ∷ []) ≡ misses (2 ∷ 4 ∷ 2 ∷ 4 ∷ 6 ∷ [])
unfolding decoded
solicitation = refl

pub advertisement : faults 1 2 ([] ∷ (mac ++ name) ∷ priority ∷ (priority ++ mac) ∷ (priority ++ mac ++ name) ∷ (priority ++ mac ++ name ++ advertising) ∷ (priority ++ mac ++ name ++ fabric) ∷ [])
    ≡ misses (1 ∷ 1 ∷ 2 ∷ 4 ∷ 5 ∷ 5 ∷ 12 ∷ [])
unfolding decoded
advertisement = refl

-- any of the three encapsulated frames counts, and the first of them is named
pub login : faults 2 1 ([] ∷ mac ∷ frame_of 7 ∷ frame_of 8 ∷ frame_of 9 ∷ []) ≡ misses (7 ∷ 7 ∷ 2 ∷ 2 ∷ 2 ∷ [])
unfolding decoded
login = refl

pub login_reply : faults 2 2 ([] ∷ mac ∷ []) ≡ misses (7 ∷ 7 ∷ [])
unfolding decoded
login_reply = refl

pub keep_alive : faults 3 1 ([] ∷ name ∷ []) ≡ misses (2 ∷ 2 ∷ [])
unfolding decoded
keep_alive = refl

pub clear_links : faults 3 2 ([] ∷ name ∷ mac ∷ []) ≡ misses (2 ∷ 2 ∷ 4 ∷ [])
unfolding decoded
clear_links = refl

pub vlan_request : faults 4 1 ([] ∷ name ∷ []) ≡ misses (2 ∷ 2 ∷ [])
unfolding decoded
vlan_request = refl

pub vlan_notification : faults 4 2 ([] ∷ (14 ∷ 1 ∷ zeros 2) ∷ []) ≡ misses (2 ∷ 2 ∷ [])
unfolding decoded
vlan_notification = refl

-- no other operation or subcode is one of a message
pub no_message : map decoded (body 0 1 mac ∷ body 1 0 mac ∷ body 1 3 mac ∷ body 2 3 mac ∷ body 3 3 mac ∷ body 4 0 mac ∷ body 4 3 mac ∷ body 5 1 mac ∷ body 0x0401 1 mac ∷ []) ≡
    Err Operation ∷ Err Operation ∷ Err Operation ∷ Err Operation ∷ Err Operation ∷ Err Operation ∷ Err Operation ∷ Err Operation ∷ Err Operation ∷ []
unfolding decoded
no_message = refl

-- what may stand once stands twice: the second is named by its place
pub doubled : map decoded (body 3 1 (mac ++ mac) ∷ body 3 1 (mac ++ vn_port ++ vn_port) ∷ body 4 1 (mac ++ name ++ name) ∷ body 2 2 (frame_of 7 ++ mac ++ mac) ∷ body 2 2 (frame_of 7 ++ frame_of 9) ∷ []) ≡
    Err (Double 18) ∷ Err (Double 38) ∷ Err (Double 30) ∷ Err (Double 46) ∷ Err (Double 38) ∷ []
unfolding decoded
doubled = refl
