-- The places and kinds that a fault of a FIP body names are small.
use Rattle.std.proofs.Common.{◌≡◌, ℕ, zero, suc, ◌+◌, ◌-◌, ◌*◌, ◌^◌, ◌<◌, ◌≤◌, Bool, true, false, not, ◌==◌, ◌&&◌, cond, if◌then◌else◌, List, [], ◌∷◌, ◌++◌, length, take, drop, find, Option, Some, None, option_map, Result, Ok, Err, refl, sym, subst, arith, nat_lt, nat_le, slice_index, get_or, lit<}
use Rattle.std.specs.List.{AllPass}
use Rattle.std.proofs.Math.Seq.{take-length}
use Rattle.std.proofs.lemmas.Bool.{and_parts, leb-true, ltb-true}
use Rattle.std.proofs.lemmas.List.{length-take, length-drop}
use Rattle.std.proofs.lemmas.List.Elements.{All-head, All-tail}
use Rattle.fab_base.specs.Layout.{field, number, big_endian}
use Rattle.fab_base.proofs.LayoutLemmas.{AreBytes, big_endian-fits, bytes_of_field}
use Rattle.eth_frames.specs.Ethernet.{Eth, is_short, has_tag, tagged_frame, plain_frame}
use Rattle.eth_frames.specs.Ethernet as eth
use Rattle.eth_frames.specs.declared.EthFault.{EthFault}
use Rattle.eth_frames.specs.declared.EthFault.TheVariants as eth_fault
use Rattle.fip_codec.specs.Fip.{HEADER, Name, Solicitation, Advertisement, Request, Reply, KeepAlive, ClearLinks, VlanRequest, VlanNotification, Descriptor, descriptors, descriptors_from, list_of, list_length, version_of, operation_of, subcode_of, flags_of, name_of, required, words_fit, in_table, may_be_skipped, family, stands_once}
use Rattle.fip_codec.specs.Message.{Fip}
use Rattle.fip_codec.specs.Reading.{fault_of, first_fault, missing, has_kind, decoded_list, decoded, message_of}
use Rattle.fip_codec.specs.declared.fault.FipFault.{FipFault}
use Rattle.fip_codec.specs.declared.fault.FipFault.TheVariants.{Short, Version, Operation, ListLength, DescLength, Critical, Double, Missing}

-- ---- bytes

pub are_bytes : (l : List ℕ) → AllPass (λ b. nat_lt b 256) l → AreBytes l
are_bytes [] h i = lit< tt
are_bytes (b ∷ l) h zero = ltb-true b 256 (All-head (λ x. nat_lt x 256 ≡ true) b l h)
are_bytes (b ∷ l) h (suc i) = are_bytes l (All-tail (λ x. nat_lt x 256 ≡ true) b l h) i

bytes_behind : (l : List ℕ) (k : ℕ) → AreBytes l → AreBytes (drop k l)
bytes_behind l k are = subst AreBytes (take-length (drop k l)) (bytes_of_field l k (length (drop k l)) are)

-- the body of a frame that was read has bytes
abbrev pub HasBody : Result Eth EthFault → Type 0
HasBody (Ok f) = AreBytes f.body
HasBody (Err e) = Unit {0}

pub body_bytes : (l : List ℕ) → AreBytes l → HasBody (eth.decoded l)
unfolding eth.decoded
body_bytes l are = go (is_short l) (has_tag l)
  where
    go : (short tagged : Bool) → HasBody (if short then Err eth_fault.Short else Ok (if tagged then tagged_frame l else plain_frame l))
    go true tagged = tt
    go false true = bytes_behind l 18 are
    go false false = bytes_behind l 14 are

two_bytes : (l : List ℕ) → length l ≤ 2 → AreBytes l → big_endian l < 65536
two_bytes [] le are = lit< tt
two_bytes (a ∷ []) le are = let fits : big_endian (a ∷ []) < 256 = big_endian-fits (a ∷ []) are in omega (arith, fits)
two_bytes (a ∷ b ∷ []) le are = big_endian-fits (a ∷ b ∷ []) are
two_bytes (a ∷ b ∷ d ∷ l) le are = absurd (omega (arith, le))

length-list : (l : List ℕ) → AreBytes l → length (list_of l) < 2 ^ 20
length-list l are =
    let few : length (field l 6 2) ≤ 2 = let e = length-take 2 (drop 6 l) in omega (arith, e) in
    let n = two_bytes (field l 6 2) few (bytes_of_field l 6 2 are) in
    let e = length-take (4 * number l 6 2) (drop 10 l) in
    omega (arith, n, e)

-- ---- faults

abbrev pub IsSmall : FipFault → Type 0
IsSmall Short = Unit {0}
IsSmall Version = Unit {0}
IsSmall Operation = Unit {0}
IsSmall ListLength = Unit {0}
IsSmall (DescLength at) = at < 2 ^ 32
IsSmall (Critical at kind) = at < 2 ^ 32
IsSmall (Double at) = at < 2 ^ 32
IsSmall (Missing kind) = kind < 2 ^ 32

abbrev SmallIf : Option FipFault → Type 0
SmallIf None = Unit {0}
SmallIf (Some fault) = IsSmall fault

fault_small : (name : Name) (before : List Descriptor) (d : Descriptor) → d.at < 2 ^ 32 → SmallIf (fault_of name before d)
fault_small name before d lt = go (not d.whole) (may_be_skipped d.kind) (not (in_table d.kind)) (not (words_fit d.kind d.words)) (stands_once name d.kind && has_kind (family d.kind) before)
  where
    go : (cut skipped unknown misfit twice : Bool) → SmallIf (
        if cut then Some (DescLength d.at)
        else if skipped then None
        else if unknown then Some (Critical d.at d.kind)
        else if misfit then Some (DescLength d.at)
        else if twice then Some (Double d.at)
        else None)
    go true skipped unknown misfit twice = lt
    go false true unknown misfit twice = tt
    go false false true misfit twice = lt
    go false false false true twice = lt
    go false false false false true = lt
    go false false false false false = tt

abbrev AreSmall : List Descriptor → Type 0
AreSmall [] = Unit {0}
AreSmall (d ∷ ds) = (d.at < 2 ^ 32) × AreSmall ds

first_small : (name : Name) (before ds : List Descriptor) → AreSmall ds → SmallIf (first_fault name before ds)
first_small name before [] h = tt
first_small name before (d ∷ ds) h = go (fault_of name before d) (fault_small name before d h.0) (first_small name (before ++ d ∷ []) ds h.1)
  where
    go : (o : Option FipFault) → SmallIf o → SmallIf (first_fault name (before ++ d ∷ []) ds) →
        SmallIf (elim o as (λ _. Option FipFault) [ Some fault ↦ Some fault | None ↦ first_fault name (before ++ d ∷ []) ds ])
    go (Some fault) small later = small
    go None small later = later

abbrev AreKinds : List ℕ → Type 0
AreKinds [] = Unit {0}
AreKinds (k ∷ kinds) = (k < 2 ^ 32) × AreKinds kinds

found_small : (test : ℕ → Bool) (kinds : List ℕ) → AreKinds kinds → SmallIf (option_map (λ kind. Missing kind) (find test kinds))
found_small test [] h = tt
found_small test (k ∷ kinds) h = go (test k) (found_small test kinds h.1)
  where
    go : (b : Bool) → SmallIf (option_map (λ kind. Missing kind) (find test kinds)) → SmallIf (option_map (λ kind. Missing kind) (cond b (Some k) (find test kinds)))
    go true later = h.0
    go false later = later

are_kinds : (name : Name) → AreKinds (required name)
are_kinds Solicitation = (lit< tt, (lit< tt, (lit< tt, tt)))
are_kinds Advertisement = (lit< tt, (lit< tt, (lit< tt, (lit< tt, (lit< tt, tt)))))
are_kinds Request = (lit< tt, (lit< tt, tt))
are_kinds Reply = (lit< tt, tt)
are_kinds KeepAlive = (lit< tt, tt)
are_kinds ClearLinks = (lit< tt, (lit< tt, tt))
are_kinds VlanRequest = (lit< tt, tt)
are_kinds VlanNotification = (lit< tt, tt)

at_small : (n at : ℕ) (l : List ℕ) → at + length l < 2 ^ 32 → AreSmall (descriptors_from n at l)
at_small zero at l lt = tt
at_small (suc n) at [] lt = tt
at_small (suc n) at (kind ∷ l) lt = go (nat_lt 0 (slice_index l 0) && nat_le (4 * slice_index l 0) (length l + 1)) refl (at_small n (at + 4 * slice_index l 0) (drop (4 * slice_index l 0 - 1) l))
  where
    go : (b : Bool) → (nat_lt 0 (slice_index l 0) && nat_le (4 * slice_index l 0) (length l + 1)) ≡ b
        → (at + 4 * slice_index l 0 + length (drop (4 * slice_index l 0 - 1) l) < 2 ^ 32 → AreSmall (descriptors_from n (at + 4 * slice_index l 0) (drop (4 * slice_index l 0 - 1) l))) → AreSmall (elim b as (λ _. List Descriptor) [
          | true ↦ record { at = at; kind = kind; words = slice_index l 0; content = field l 1 (4 * slice_index l 0 - 2); whole = true }
              ∷ descriptors_from n (at + 4 * slice_index l 0) (drop (4 * slice_index l 0 - 1) l)
          | false ↦ record { at = at; kind = kind; words = slice_index l 0; content = []; whole = false } ∷ []
        ])
    go true e later =
        let both = and_parts (nat_lt 0 (slice_index l 0)) (nat_le (4 * slice_index l 0) (length l + 1)) e in
        let some = ltb-true 0 (slice_index l 0) both.0 in
        let fits = leb-true (4 * slice_index l 0) (length l + 1) both.1 in
        let rest = length-drop (4 * slice_index l 0 - 1) l in
        (omega (arith, lt), later (omega (arith, lt, some, fits, rest)))
    go false e later = (omega (arith, lt), tt)

descriptors_small : (l : List ℕ) → AreBytes l → AreSmall (descriptors l)
descriptors_small l are = at_small (length (list_of l)) 10 (list_of l) (let few = length-list l are in omega (arith, few))

-- ---- reading

abbrev pub SmallRead : Result Fip FipFault → Type 0
SmallRead (Ok m) = Unit {0}
SmallRead (Err fault) = IsSmall fault

list_small : (name : Name) (l : List ℕ) → AreBytes l → SmallRead (decoded_list name l)
list_small name l are = go (first_fault name [] (descriptors l)) (missing name (descriptors l)) (first_small name [] (descriptors l) (descriptors_small l are)) (found_small (λ kind. not (has_kind kind (descriptors l))) (required name) (are_kinds name))
  where
    go : (o m : Option FipFault) → SmallIf o → SmallIf m → SmallRead (elim o as (λ _. Result Fip FipFault) [
      | Some fault ↦ Err fault
      | None ↦ elim m as (λ _. Result Fip FipFault) [ Some fault ↦ Err fault | None ↦ Ok (message_of name (flags_of l) (descriptors l)) ]
    ])
    go (Some fault) m small absent = small
    go None (Some fault) small absent = absent
    go None None small absent = tt

pub read_small : (l : List ℕ) → AreBytes l → SmallRead (decoded l)
unfolding decoded
read_small l are = go (nat_lt (length l) HEADER) (not (version_of l == 1)) (name_of (operation_of l) (subcode_of l)) (nat_lt (length l) (HEADER + list_length l))
  where
    go : (short wrong : Bool) (o : Option Name) (cut : Bool) → SmallRead (
        if short then Err Short
        else if wrong then Err Version
        else elim o as (λ _. Result Fip FipFault) [
          | None ↦ Err Operation
          | Some name ↦ elim cut as (λ _. Result Fip FipFault) [ true ↦ Err ListLength | false ↦ decoded_list name l ]
        ])
    go true wrong o cut = tt
    go false true o cut = tt
    go false false None cut = tt
    go false false (Some name) true = tt
    go false false (Some name) false = list_small name l are
