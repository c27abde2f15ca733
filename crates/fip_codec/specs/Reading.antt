-- Which message a body is, or the first fault in it (FC-BB-5, "FIP frame format"; the order of the tests is this
-- project's profile).
use Rattle.std.specs.Prelude.{◌≡◌, ℕ, ◌+◌, ◌*◌, Bool, true, false, ◌==◌, nat_le, nat_lt, ◌&&◌, ◌||◌, not, if◌then◌else◌, List, [], ◌∷◌, ◌++◌, length, drop, map, find, flat_map, Option, Some, None, Result, Ok, Err, option_map}
use Rattle.std.specs.List.{list_any, AllPass}
use Rattle.fab_base.specs.Layout.{byte, number}
use Rattle.fip_codec.specs.Fip.{HEADER, version_of, operation_of, subcode_of, list_length, flags_of, has_flag, Descriptor, descriptors, words_fit, in_table, may_be_skipped, family, of_kind, content_of, mac_in, name_in, vx_port, vlan_number, Name, Solicitation, Advertisement, Request, Reply, KeepAlive, ClearLinks, VlanRequest, VlanNotification, name_of, required, optional, stands_once}
use Rattle.fip_codec.specs.Message.{Fip, Solicit, Advertise, Login, LoginReply, Keep, Clear, VlanAsk, VlanTell}
use Rattle.fip_codec.specs.declared.message.LoginKind.{LoginKind}
use Rattle.fip_codec.specs.declared.message.LoginKind.TheVariants.{Flogi, Fdisc, Logo}
use Rattle.fip_codec.specs.declared.fault.FipFault.{FipFault}
use Rattle.fip_codec.specs.declared.fault.FipFault.TheVariants.{Short, Version, Operation, ListLength, DescLength, Critical, Double, Missing}

-- ---- faults

-- a descriptor of that kind, and for an encapsulated frame of any of the three, stands among these
abbrev pub has_kind : ℕ → List Descriptor → Bool
has_kind kind ds = list_any (λ d. family d.kind == kind) ds

-- the fault of a descriptor of a message that has these descriptors before it
abbrev pub fault_of : Name → List Descriptor → Descriptor → Option FipFault
fault_of name before d =
    if not d.whole then Some (DescLength d.at)
    else if may_be_skipped d.kind then None
    else if not (in_table d.kind) then Some (Critical d.at d.kind)
    else if not (words_fit d.kind d.words) then Some (DescLength d.at)
    else if stands_once name d.kind && has_kind (family d.kind) before then Some (Double d.at)
    else None

-- the fault of the first descriptor that has one, these standing before them
abbrev pub first_fault : Name → List Descriptor → List Descriptor → Option FipFault
first_fault name before [] = None
first_fault name before (d ∷ ds) = elim (fault_of name before d) [ Some fault ↦ Some fault | None ↦ first_fault name (before ++ d ∷ []) ds ]

-- the first required kind that is absent
abbrev pub missing : Name → List Descriptor → Option FipFault
missing name ds = option_map (λ kind. Missing kind) (find (λ kind. not (has_kind kind ds)) (required name))

-- ---- messages

abbrev pub kind_of : List Descriptor → LoginKind
kind_of ds = elim (of_kind 7 ds) [ [] ↦ Flogi | d ∷ _ ↦ (if d.kind == 8 then Fdisc else if d.kind == 9 then Logo else Flogi) ]

-- the encapsulated frame: the content without its two reserved bytes
abbrev pub frame_in : List Descriptor → List ℕ
frame_in ds = drop 2 (content_of 7 ds)

-- what a descriptor that may be there says
abbrev pub if_kind : {X : Type 0} → ℕ → List Descriptor → X → Option X
if_kind kind ds x = if has_kind kind ds then Some x else None

-- the message that flags and descriptors make
abbrev pub message_of : Name → ℕ → List Descriptor → Fip
message_of Solicitation flags ds = Solicit (has_flag 1 flags) (has_flag 0x8000 flags) (mac_in ds) (name_in ds) (number (content_of 6 ds) 0 2)
message_of Advertisement flags ds =
    Advertise (has_flag 2 flags) (has_flag 4 flags) (has_flag 1 flags) (has_flag 0x8000 flags) (byte (content_of 1 ds) 1) (mac_in ds) (name_in ds)
    (number (content_of 5 ds) 3 3) (number (content_of 5 ds) 6 8) (has_flag 1 (byte (content_of 12 ds) 1)) (number (content_of 12 ds) 2 4)
message_of Request flags ds = Login (kind_of ds) (has_flag 0x8000 flags) (frame_in ds) (mac_in ds)
message_of Reply flags ds = LoginReply (kind_of ds) (has_flag 0x8000 flags) (frame_in ds) (if_kind 2 ds (mac_in ds))
message_of KeepAlive flags ds = Keep (mac_in ds) (if_kind 11 ds (vx_port (content_of 11 ds)))
message_of ClearLinks flags ds = Clear (mac_in ds) (name_in ds) (map (λ d. vx_port d.content) (of_kind 11 ds))
message_of VlanRequest flags ds = VlanAsk (mac_in ds) (if_kind 4 ds (name_in ds))
message_of VlanNotification flags ds = VlanTell (mac_in ds) (map (λ d. vlan_number d.content) (of_kind 14 ds))

-- ---- reading

abbrev pub decoded_list : Name → List ℕ → Result Fip FipFault
decoded_list name l =
    let ds = descriptors l in
    elim (first_fault name [] ds) [
      | Some fault ↦ Err fault
      | None ↦ elim (missing name ds) [ Some fault ↦ Err fault | None ↦ Ok (message_of name (flags_of l) ds) ]
    ]

-- the message of a body, or the first fault in it
unfoldable pub decoded : List ℕ → Result Fip FipFault
decoded l =
    if nat_lt (length l) HEADER then Err Short
    else if not (version_of l == 1) then Err Version
    else elim (name_of (operation_of l) (subcode_of l)) [
      | None ↦ Err Operation
      | Some name ↦ elim (nat_lt (length l) (HEADER + list_length l)) [ true ↦ Err ListLength | false ↦ decoded_list name l ]
    ]

-- ---- the grammar

-- type, length and content
abbrev pub descriptor_bytes : Descriptor → List ℕ
descriptor_bytes d = d.kind ∷ d.words ∷ d.content

-- A body is a message: a header of version 1, and a list of whole descriptors, among which every required kind
-- stands once, every optional one at most once, and none is both unknown and critical. What follows the list is free.
pub record IsFip (m : Fip) (l : List ℕ) : Type 0 where
  pub name : Name
  pub descs : List Descriptor
  pub more : List ℕ
  pub version : version_of l ≡ 1
  pub row : name_of (operation_of l) (subcode_of l) ≡ Some name
  pub bytes : drop HEADER l ≡ flat_map descriptor_bytes descs ++ more
  pub count : length (flat_map descriptor_bytes descs) ≡ list_length l
  pub whole : AllPass (λ d. d.whole) descs
  pub sizes : AllPass (λ d. length d.content + 2 == 4 * d.words && nat_lt 0 d.words) descs
  pub known : AllPass (λ d. may_be_skipped d.kind || words_fit d.kind d.words) descs
  pub required_once : AllPass (λ kind. length (of_kind kind descs) == 1) (required name)
  pub optional_once : AllPass (λ kind. nat_le (length (of_kind kind descs)) 1) (optional name)
  pub says : message_of name (flags_of l) descs ≡ m
