-- FIP, the FCoE Initialization Protocol (FC-BB-5, "FIP operations" and "FIP descriptors"): the header, the table
-- of descriptors and the table of messages. The tables are this project's profile of the standard.
use Rattle.std.specs.Prelude.{ℕ, zero, suc, ◌+◌, ◌-◌, ◌*◌, ◌/◌, ◌%◌, Bool, true, false, ◌==◌, nat_le, nat_lt, ◌&&◌, ◌||◌, if◌then◌else◌, List, [], ◌∷◌, ◌++◌, length, drop, map, filter, Option, Some, None, slice_index}
use Rattle.std.specs.List.{list_any}
use Rattle.fab_base.specs.Layout.{field, byte, number}
use Rattle.fip_codec.specs.declared.message.VxPort.{VxPort}

-- ---- the header

-- the bytes before the list of descriptors
abbrev pub HEADER : ℕ
HEADER = 10

abbrev pub version_of : List ℕ → ℕ
version_of l = byte l 0 / 16

abbrev pub operation_of : List ℕ → ℕ
operation_of l = number l 2 2

abbrev pub subcode_of : List ℕ → ℕ
subcode_of l = byte l 5

-- the bytes that the header says the list has
abbrev pub list_length : List ℕ → ℕ
list_length l = 4 * number l 6 2

abbrev pub list_of : List ℕ → List ℕ
list_of l = field l HEADER (list_length l)

abbrev pub flags_of : List ℕ → ℕ
flags_of l = number l 8 2

-- a flag of the header, given by its value: 8000 is FP, 0004 is A, 0002 is S and 0001 is F
abbrev pub has_flag : ℕ → ℕ → Bool
has_flag flag flags = flags / flag % 2 == 1

-- ---- descriptors

-- A descriptor of a list: its place in the body, type, length in words, and the bytes after these two. A
-- descriptor whose length is 0 or passes the list isn't whole, and nothing behind it is one.
pub record Descriptor : Type 0 where
  pub at : ℕ
  pub kind : ℕ
  pub words : ℕ
  pub content : List ℕ
  pub whole : Bool

-- the descriptors of a list that begins at this place, of which there are at most n
abbrev pub descriptors_from : ℕ → ℕ → List ℕ → List Descriptor
descriptors_from zero at l = []
descriptors_from (suc n) at [] = []
descriptors_from (suc n) at (kind ∷ l) =
    let words = slice_index l 0 in
    let size = 4 * words in
    elim (nat_lt 0 words && nat_le size (length l + 1)) [
      | true ↦ record { at = at; kind = kind; words = words; content = field l 1 (size - 2); whole = true }
          ∷ descriptors_from n (at + size) (drop (size - 1) l)
      | false ↦ record { at = at; kind = kind; words = words; content = []; whole = false } ∷ []
    ]

-- the descriptors of a body's list
abbrev pub descriptors : List ℕ → List Descriptor
descriptors l = let list = list_of l in descriptors_from (length list) HEADER list

-- the types of the table with the words that each has
abbrev pub words_fit : ℕ → ℕ → Bool
words_fit kind words =
    (kind == 1 && words == 1) || (kind == 2 && words == 2) || (kind == 4 && words == 3) || (kind == 5 && words == 4)
    || (kind == 6 && words == 1) || (nat_le 7 kind && nat_le kind 9 && nat_le 7 words && nat_le words 255)
    || (kind == 11 && words == 5) || (kind == 12 && words == 2) || (kind == 14 && words == 1)

abbrev pub in_table : ℕ → Bool
in_table kind = list_any (λ k. k == kind) (1 ∷ 2 ∷ 4 ∷ 5 ∷ 6 ∷ 7 ∷ 8 ∷ 9 ∷ 11 ∷ 12 ∷ 14 ∷ [])

-- Whoever doesn't know a type of 128 or above skips it, and refuses one below.
abbrev pub may_be_skipped : ℕ → Bool
may_be_skipped kind = nat_le 128 kind

-- the three encapsulated frames count as one kind, that of the first
abbrev pub family : ℕ → ℕ
family kind = if kind == 8 || kind == 9 then 7 else kind

-- the whole descriptors of a kind
abbrev pub of_kind : ℕ → List Descriptor → List Descriptor
of_kind kind ds = filter (λ d. family d.kind == kind && d.whole) ds

-- the content of the first descriptor of a kind
abbrev pub content_of : ℕ → List Descriptor → List ℕ
content_of kind ds = elim (of_kind kind ds) [ [] ↦ [] | d ∷ _ ↦ d.content ]

-- ---- what stands in a descriptor

abbrev pub mac_in : List Descriptor → List ℕ
mac_in ds = field (content_of 2 ds) 0 6

abbrev pub name_in : List Descriptor → ℕ
name_in ds = number (content_of 4 ds) 2 8

-- MAC, address and port name of a Vx_Port descriptor
abbrev pub vx_port : List ℕ → VxPort
vx_port content = record { mac = field content 0 6; address = number content 7 3; name = number content 10 8 }

-- the low 12 bits of a VLAN descriptor
abbrev pub vlan_number : List ℕ → ℕ
vlan_number content = number content 0 2 % 4096

-- what the descriptors of a type say, of the bytes of a list
abbrev pub items : {X : Type 0} → ℕ → (List ℕ → X) → List ℕ → List X
items kind value list = map (λ d. value d.content) (of_kind kind (descriptors_from (length list) HEADER list))

-- the Vx_Port descriptors
abbrev pub vx_ports : List ℕ → List VxPort
vx_ports list = items 11 vx_port list

-- ---- messages

-- the messages
pub data Name : Type 0 where
  Solicitation : Name
  Advertisement : Name
  Request : Name
  Reply : Name
  KeepAlive : Name
  ClearLinks : Name
  VlanRequest : Name
  VlanNotification : Name

-- the message of an operation and a subcode
abbrev pub name_of : ℕ → ℕ → Option Name
name_of operation subcode =
    if operation == 1 && subcode == 1 then Some Solicitation
    else if operation == 1 && subcode == 2 then Some Advertisement
    else if operation == 2 && subcode == 1 then Some Request
    else if operation == 2 && subcode == 2 then Some Reply
    else if operation == 3 && subcode == 1 then Some KeepAlive
    else if operation == 3 && subcode == 2 then Some ClearLinks
    else if operation == 4 && subcode == 1 then Some VlanRequest
    else if operation == 4 && subcode == 2 then Some VlanNotification
    else None

-- the kinds that a message must have, in the order in which they are written
abbrev pub required : Name → List ℕ
required Solicitation = 2 ∷ 4 ∷ 6 ∷ []
required Advertisement = 1 ∷ 2 ∷ 4 ∷ 5 ∷ 12 ∷ []
required Request = 7 ∷ 2 ∷ []
required Reply = 7 ∷ []
required KeepAlive = 2 ∷ []
required ClearLinks = 2 ∷ 4 ∷ []
required VlanRequest = 2 ∷ []
required VlanNotification = 2 ∷ []

-- the kinds that it may have once
abbrev pub optional : Name → List ℕ
optional Reply = 2 ∷ []
optional KeepAlive = 11 ∷ []
optional VlanRequest = 4 ∷ []
optional Solicitation = []
optional Advertisement = []
optional Request = []
optional ClearLinks = []
optional VlanNotification = []

-- a kind of which a message has at most one
abbrev pub stands_once : Name → ℕ → Bool
stands_once name kind = list_any (λ k. k == family kind) (required name ++ optional name)
