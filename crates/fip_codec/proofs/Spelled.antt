-- A written message is in the grammar, whatever bytes stand behind it.
use Rattle.std.proofs.Common.{◌≡◌, ℕ, suc, ◌+◌, ◌*◌, ◌/◌, ◌%◌, ◌^◌, ◌<◌, ◌≤◌, Bool, true, false, nat_lt, nat_le, ◌&&◌, ◌||◌, ◌==◌, List, [], ◌∷◌, ◌++◌, length, map, take, Option, Some, None, Ok, refl, sym, ap, ◌∙◌, arith, lit<, length-append, append_assoc, take_all, IfSome, if◌then◌else◌}
use Rattle.std.specs.List.{list_all, flat_map, All}
use Rattle.std.proofs.lemmas.Bool.{and_from, or_right}
use Rattle.std.proofs.lemmas.Bool.Decides.{nat_tests}
use Rattle.std.proofs.lemmas.List.{append-nil}
use Rattle.std.proofs.lemmas.List.Sums.{AllPass-from_list_all}
use Rattle.fab_base.specs.Layout.{big_endian, spelled}
use Rattle.fab_base.proofs.LayoutLemmas.{big_endian-spelled}
use Rattle.fip_codec.specs.declared.message.LoginKind.{LoginKind}
use Rattle.fip_codec.specs.declared.message.LoginKind.TheVariants.{Flogi, Fdisc, Logo}
use Rattle.fip_codec.specs.declared.message.VxPort.{VxPort}
use Rattle.fip_codec.specs.Fip.{Descriptor, Name, Solicitation, Advertisement, Request, Reply, KeepAlive, ClearLinks, VlanRequest, VlanNotification, name_of, has_flag, may_be_skipped, words_fit, family, of_kind, required, optional, vx_port, vlan_number}
use Rattle.fip_codec.specs.Message.{Fip, Solicit, Advertise, Login, LoginReply, Keep, Clear, VlanAsk, VlanTell, written, message_bytes, flag, mac_bytes, name_bytes, size_bytes, priority_bytes, fabric_bytes, advertising_bytes, frame_bytes, kind_code, vx_port_bytes, vlan_bytes}
use Rattle.fip_codec.specs.Reading.{decoded, message_of, descriptor_bytes, IsFip}
use Rattle.fip_codec.specs.CanWrite.{CanWrite, IsTyped, IsMac, IsPort, IsFrame}
use Rattle.fip_codec.proofs.Grammar.{is_sized}
use Rattle.fip_codec.proofs.Sound.{and-left, and-right}
use Rattle.fip_codec.proofs.Typed.{of_kind-hit, of_kind-miss}
use Rattle.fip_codec.proofs.Unique.{decoded-from_IsFip}

abbrev is_known : Descriptor → Bool
is_known d = may_be_skipped d.kind || words_fit d.kind d.words

-- a whole descriptor; its place doesn't matter
abbrev made : ℕ → ℕ → List ℕ → Descriptor
made kind words content = record { at = 0; kind = kind; words = words; content = content; whole = true }

all_words : List Descriptor → ℕ
all_words [] = 0
all_words (d ∷ ds) = d.words + all_words ds

equal : (a b : ℕ) → (a == b) ≡ true → a ≡ b
equal a b e = grind (arith, nat_tests)

length-spelled_list : (ds : List Descriptor) → list_all is_sized ds ≡ true → length (flat_map descriptor_bytes ds) ≡ 4 * all_words ds
unfolding all_words
length-spelled_list [] size = refl
length-spelled_list (d ∷ ds) size =
    let one = equal (length d.content + 2) (4 * d.words) (and-left (length d.content + 2 == 4 * d.words) (nat_lt 0 d.words) (and-left (is_sized d) (list_all is_sized ds) size)) in
    omega (arith, one, length-append d.content (flat_map descriptor_bytes ds), length-spelled_list ds (and-right (is_sized d) (list_all is_sized ds) size))

-- what is said of a list of descriptors, apart from the message
record Is (name : Name) (ds : List Descriptor) : Type 0 where
  whole : list_all (λ d. d.whole) ds ≡ true
  sized : list_all is_sized ds ≡ true
  known : list_all is_known ds ≡ true
  few : all_words ds < 65536
  one : list_all (λ kind. length (of_kind kind ds) == 1) (required name) ≡ true
  most : list_all (λ kind. nat_le (length (of_kind kind ds)) 1) (optional name) ≡ true

in_grammar : (m : Fip) (name : Name) (operation subcode flags : ℕ) (list : List ℕ) (ds : List Descriptor) (more : List ℕ) → list ≡ flat_map descriptor_bytes ds
    → operation < 65536 → flags < 65536 → name_of operation subcode ≡ Some name → Is name ds → message_of name flags ds ≡ m → IsFip m (message_bytes operation subcode flags list ++ more)
in_grammar m name operation subcode flags list ds more is op_fits flags_fit row ok says =
    let len : length list ≡ 4 * all_words ds = ap length is ∙ length-spelled_list ds ok.sized in
    let count : big_endian (spelled 2 (length list / 4)) ≡ length list / 4 = big_endian-spelled 2 (length list / 4) (omega (arith, len, ok.few)) in
    record {
      name = name;
      descs = ds;
      more = more;
      version = refl;
      row = ap (λ o. name_of o subcode) (big_endian-spelled 2 operation op_fits) ∙ row;
      bytes = ap (λ m. m ++ more) is;
      count = sym (ap length is) ∙ (let e : length list ≡ 4 * (length list / 4) = omega (arith, len) in e) ∙ ap (λ n. 4 * n) (sym count);
      whole = AllPass-from_list_all (λ d. d.whole) ds ok.whole;
      sizes = AllPass-from_list_all is_sized ds ok.sized;
      known = AllPass-from_list_all is_known ds ok.known;
      required_once = AllPass-from_list_all (λ kind. length (of_kind kind ds) == 1) (required name) ok.one;
      optional_once = AllPass-from_list_all (λ kind. nat_le (length (of_kind kind ds)) 1) (optional name) ok.most;
      says = ap (λ f. message_of name f ds) (big_endian-spelled 2 flags flags_fit) ∙ says;
    }

-- messages of equal parts
same_solicit : {f f' fp fp' : Bool} {mac mac' : List ℕ} {n n' size size' : ℕ} → f ≡ f' → fp ≡ fp' → mac ≡ mac' → n ≡ n' → size ≡ size' → Solicit f fp mac n size ≡ Solicit f' fp' mac' n' size'
same_solicit a b c d e = cc

same_advertise : {s s' a a' f f' fp fp' quiet quiet' : Bool} {mac mac' : List ℕ} (priority : ℕ) {switch switch' fc_map fc_map' fabric fabric' period period' : ℕ} → s ≡ s' → a ≡ a' → f ≡ f' → fp ≡ fp' → mac ≡ mac' → switch ≡ switch' → fc_map ≡ fc_map' → fabric ≡ fabric' → quiet ≡ quiet' → period ≡ period'
    → Advertise s a f fp priority mac switch fc_map fabric quiet period ≡ Advertise s' a' f' fp' priority mac' switch' fc_map' fabric' quiet' period'
same_advertise priority p q r t u v w x y z = cc

same_login : (kind : LoginKind) {fp fp' : Bool} (frame : List ℕ) {mac mac' : List ℕ} → fp ≡ fp' → mac ≡ mac' → Login kind fp frame mac ≡ Login kind fp' frame mac'
same_login kind frame a b = cc

same_reply : (kind : LoginKind) {fp fp' : Bool} (frame : List ℕ) {mac mac' : Option (List ℕ)} → fp ≡ fp' → mac ≡ mac' → LoginReply kind fp frame mac ≡ LoginReply kind fp' frame mac'
same_reply kind frame a b = cc

same_keep : {mac mac' : List ℕ} {port port' : Option VxPort} → mac ≡ mac' → port ≡ port' → Keep mac port ≡ Keep mac' port'
same_keep a b = cc

same_clear : {mac mac' : List ℕ} {switch switch' : ℕ} {ports ports' : List VxPort} → mac ≡ mac' → switch ≡ switch' → ports ≡ ports' → Clear mac switch ports ≡ Clear mac' switch' ports'
same_clear a b c = cc

same_ask : {mac mac' : List ℕ} {n n' : Option ℕ} → mac ≡ mac' → n ≡ n' → VlanAsk mac n ≡ VlanAsk mac' n'
same_ask a b = cc

same_tell : {mac mac' vlans vlans' : List ℕ} → mac ≡ mac' → vlans ≡ vlans' → VlanTell mac vlans ≡ VlanTell mac' vlans'
same_tell a b = cc

-- ---- contents

abbrev mac_of : List ℕ → Descriptor
mac_of mac = made 2 2 mac

abbrev name_desc : ℕ → Descriptor
name_desc n = made 4 3 (0 ∷ 0 ∷ spelled 8 n)

mac_back : (mac : List ℕ) → IsMac mac → take 6 mac ≡ mac
mac_back mac six = take_all 6 mac (omega (arith, six))

-- the MAC stands before others
with_mac : (mac : List ℕ) (b : Bool) → IsMac mac → b ≡ true → ((length mac + 2 == 8 && nat_lt 0 2) && b) ≡ true
with_mac mac b six e = ap (λ n. (n + 2 == 8 && nat_lt 0 2) && b) six ∙ e

name_back : (n : ℕ) → n < 2 ^ 64 → big_endian (spelled 8 n) ≡ n
name_back n fits = big_endian-spelled 8 n (omega arith)

two_flags : (fp f : Bool) → (has_flag 1 (flag 0x8000 fp + flag 1 f) ≡ f) × (has_flag 0x8000 (flag 0x8000 fp + flag 1 f) ≡ fp) × (flag 0x8000 fp + flag 1 f < 65536)
two_flags false false = (refl, refl, lit< tt)
two_flags false true = (refl, refl, lit< tt)
two_flags true false = (refl, refl, lit< tt)
two_flags true true = (refl, refl, lit< tt)

one_flag : (fp : Bool) → (has_flag 0x8000 (flag 0x8000 fp) ≡ fp) × (flag 0x8000 fp < 65536)
one_flag false = (refl, lit< tt)
one_flag true = (refl, lit< tt)

solicit : (fp f : Bool) (mac : List ℕ) (node_name size : ℕ) (more : List ℕ) → IsMac mac → node_name < 2 ^ 64 → size < 2 ^ 16 → IsFip (Solicit f fp mac node_name size) (written (Solicit f fp mac node_name size) ++ more)
unfolding written all_words
solicit fp f mac node_name size more six is_name is_size =
    let ds = mac_of mac ∷ name_desc node_name ∷ made 6 1 (spelled 2 size) ∷ [] in
    let flags = two_flags fp f in
    in_grammar _ Solicitation 1 1 _ _ ds more (append_assoc (mac_bytes mac) (name_bytes node_name) (size_bytes size)) (lit< tt) flags.2 refl
    (record { whole = refl; sized = with_mac mac true six refl; known = refl; few = lit< tt; one = refl; most = refl })
    (same_solicit flags.0 flags.1 (mac_back mac six) (name_back node_name is_name) (big_endian-spelled 2 size (omega arith)))

vlan_ask : (mac : List ℕ) (node_name : Option ℕ) (more : List ℕ) → IsMac mac → IfSome node_name (λ n. n < 2 ^ 64) → IsFip (VlanAsk mac node_name) (written (VlanAsk mac node_name) ++ more)
unfolding written all_words
vlan_ask mac None more six fits =
    in_grammar _ VlanRequest 4 1 0 _ (mac_of mac ∷ []) more refl (lit< tt) (lit< tt) refl
    (record { whole = refl; sized = with_mac mac true six refl; known = refl; few = lit< tt; one = refl; most = refl })
    (same_ask (mac_back mac six) refl)
vlan_ask mac (Some n) more six fits =
    in_grammar _ VlanRequest 4 1 0 _ (mac_of mac ∷ name_desc n ∷ []) more refl (lit< tt) (lit< tt) refl
    (record { whole = refl; sized = with_mac mac true six refl; known = refl; few = lit< tt; one = refl; most = refl })
    (same_ask (mac_back mac six) (ap (λ k. Some k) (name_back n fits)))

vx_back : (mac : List ℕ) (address name : ℕ) → IsMac mac → address < 2 ^ 24 → name < 2 ^ 64
    → vx_port (mac ++ (0 ∷ spelled 3 address) ++ spelled 8 name) ≡ record { mac = mac; address = address; name = name }
vx_back [] address name six a n = absurd (omega arith)
vx_back (b0 ∷ []) address name six a n = absurd (omega arith)
vx_back (b0 ∷ b1 ∷ []) address name six a n = absurd (omega arith)
vx_back (b0 ∷ b1 ∷ b2 ∷ []) address name six a n = absurd (omega arith)
vx_back (b0 ∷ b1 ∷ b2 ∷ b3 ∷ []) address name six a n = absurd (omega arith)
vx_back (b0 ∷ b1 ∷ b2 ∷ b3 ∷ b4 ∷ []) address name six a n = absurd (omega arith)
vx_back (b0 ∷ b1 ∷ b2 ∷ b3 ∷ b4 ∷ b5 ∷ []) address name six a n =
    ap (λ (k : ℕ). record { mac = b0 ∷ b1 ∷ b2 ∷ b3 ∷ b4 ∷ b5 ∷ []; address = k; name = big_endian (spelled 8 name) }) (big_endian-spelled 3 address (omega arith))
    ∙ ap (λ (k : ℕ). record { mac = b0 ∷ b1 ∷ b2 ∷ b3 ∷ b4 ∷ b5 ∷ []; address = address; name = k }) (name_back name n)
vx_back (b0 ∷ b1 ∷ b2 ∷ b3 ∷ b4 ∷ b5 ∷ b6 ∷ mac) address name six a n = absurd (omega arith)

abbrev vx_content : VxPort → List ℕ
vx_content p = p.mac ++ (0 ∷ spelled 3 p.address) ++ spelled 8 p.name

abbrev vx_desc : VxPort → Descriptor
vx_desc p = made 11 5 (vx_content p)

vx_size : (p : VxPort) → IsPort p → is_sized (vx_desc p) ≡ true
vx_size p ok =
    let n : length (vx_content p) ≡ 18 = omega (arith, length-append (p.mac ++ (0 ∷ spelled 3 p.address)) (spelled 8 p.name), length-append p.mac (0 ∷ spelled 3 p.address), ok.mac) in
    ap (λ k. k + 2 == 20 && nat_lt 0 5) n

keep : (mac : List ℕ) (port : Option VxPort) (more : List ℕ) → IsMac mac → IfSome port IsPort → IsFip (Keep mac port) (written (Keep mac port) ++ more)
unfolding written all_words
keep mac None more six fits =
    in_grammar _ KeepAlive 3 1 0 _ (mac_of mac ∷ []) more refl (lit< tt) (lit< tt) refl
    (record { whole = refl; sized = with_mac mac true six refl; known = refl; few = lit< tt; one = refl; most = refl })
    (same_keep (mac_back mac six) refl)
keep mac (Some p) more six ok =
    in_grammar _ KeepAlive 3 1 0 _ (mac_of mac ∷ vx_desc p ∷ []) more (ap (λ b. mac_bytes mac ++ b) (sym (append-nil (vx_port_bytes p)))) (lit< tt) (lit< tt) refl
    (record { whole = refl; sized = with_mac mac (is_sized (vx_desc p) && true) six (ap (λ b. b && true) (vx_size p ok)); known = refl; few = lit< tt; one = refl; most = refl })
    (same_keep (mac_back mac six) (ap (λ q. Some q) (vx_back p.mac p.address p.name ok.mac ok.address ok.name)))

four_flags : (s a f fp : Bool) →
    (has_flag 2 (flag 0x8000 fp + flag 4 a + flag 2 s + flag 1 f) ≡ s) × (has_flag 4 (flag 0x8000 fp + flag 4 a + flag 2 s + flag 1 f) ≡ a) × (has_flag 1 (flag 0x8000 fp + flag 4 a + flag 2 s + flag 1 f) ≡ f)
    × (has_flag 0x8000 (flag 0x8000 fp + flag 4 a + flag 2 s + flag 1 f) ≡ fp) × (flag 0x8000 fp + flag 4 a + flag 2 s + flag 1 f < 65536)
four_flags false false false false = (refl, refl, refl, refl, lit< tt)
four_flags false false false true = (refl, refl, refl, refl, lit< tt)
four_flags false false true false = (refl, refl, refl, refl, lit< tt)
four_flags false false true true = (refl, refl, refl, refl, lit< tt)
four_flags false true false false = (refl, refl, refl, refl, lit< tt)
four_flags false true false true = (refl, refl, refl, refl, lit< tt)
four_flags false true true false = (refl, refl, refl, refl, lit< tt)
four_flags false true true true = (refl, refl, refl, refl, lit< tt)
four_flags true false false false = (refl, refl, refl, refl, lit< tt)
four_flags true false false true = (refl, refl, refl, refl, lit< tt)
four_flags true false true false = (refl, refl, refl, refl, lit< tt)
four_flags true false true true = (refl, refl, refl, refl, lit< tt)
four_flags true true false false = (refl, refl, refl, refl, lit< tt)
four_flags true true false true = (refl, refl, refl, refl, lit< tt)
four_flags true true true false = (refl, refl, refl, refl, lit< tt)
four_flags true true true true = (refl, refl, refl, refl, lit< tt)

quiet_back : (quiet : Bool) → has_flag 1 (if quiet then 1 else 0) ≡ quiet
quiet_back true = refl
quiet_back false = refl

advertise : (s a f fp : Bool) (priority : ℕ) (mac : List ℕ) (switch fc_map fabric : ℕ) (quiet : Bool) (period : ℕ) (more : List ℕ) → IsMac mac → switch < 2 ^ 64 → fc_map < 2 ^ 24 → fabric < 2 ^ 64 → period < 2 ^ 32
    → IsFip (Advertise s a f fp priority mac switch fc_map fabric quiet period) (written (Advertise s a f fp priority mac switch fc_map fabric quiet period) ++ more)
unfolding written all_words
advertise s a f fp priority mac switch fc_map fabric quiet period more six is_switch is_map is_fabric is_period =
    let front = priority_bytes priority ++ mac_bytes mac in
    let ds = made 1 1 (0 ∷ priority ∷ []) ∷ mac_of mac ∷ name_desc switch ∷ made 5 4 (0 ∷ 0 ∷ 0 ∷ spelled 3 fc_map ++ spelled 8 fabric) ∷ made 12 2 (0 ∷ (if quiet then 1 else 0) ∷ spelled 4 period) ∷ [] in
    let flags = four_flags s a f fp in
    in_grammar _ Advertisement 1 2 _ _ ds more
    (append_assoc (front ++ name_bytes switch) (fabric_bytes fc_map fabric) (advertising_bytes quiet period) ∙ append_assoc front (name_bytes switch) (fabric_bytes fc_map fabric ++ advertising_bytes quiet period))
    (lit< tt) flags.4 refl
    (record { whole = refl; sized = with_mac mac true six refl; known = refl; few = lit< tt; one = refl; most = refl })
    (same_advertise priority flags.0 flags.1 flags.2 flags.3 (mac_back mac six) (name_back switch is_switch) (big_endian-spelled 3 fc_map (omega arith)) (name_back fabric is_fabric) (quiet_back quiet) (big_endian-spelled 4 period (omega arith)))

-- ---- encapsulated frames

fits : (kind : LoginKind) (w : ℕ) → 7 ≤ w → w ≤ 255 → words_fit (kind_code kind) w ≡ true
fits Flogi w p q = grind (arith, nat_tests)
fits Fdisc w p q = grind (arith, nat_tests)
fits Logo w p q = grind (arith, nat_tests)

frame_size : (frame : List ℕ) → IsFrame frame → (length (0 ∷ 0 ∷ frame) + 2 == 4 * (length frame / 4 + 1) && nat_lt 0 (length frame / 4 + 1)) ≡ true
frame_size frame ok = sized_if (length (0 ∷ 0 ∷ frame) + 2) (length frame / 4 + 1) (let z = ok.0 in omega arith) (omega arith)
  where
    sized_if : (a w : ℕ) → a ≡ 4 * w → 0 < w → (a == 4 * w && nat_lt 0 w) ≡ true
    sized_if a w e pos = grind (arith, nat_tests)

frame_words : (frame : List ℕ) → IsFrame frame → (7 ≤ length frame / 4 + 1) × (length frame / 4 + 1 ≤ 255)
frame_words frame ok = (let z = ok.1 in omega arith, let z = ok.2 in omega arith)

abbrev frame_desc : LoginKind → List ℕ → Descriptor
frame_desc kind frame = made (kind_code kind) (length frame / 4 + 1) (0 ∷ 0 ∷ frame)

abbrev IsOne : Name → List Descriptor → Type 0
IsOne name ds = list_all (λ kind. length (of_kind kind ds) == 1) (required name) ≡ true

abbrev AreFew : Name → List Descriptor → Type 0
AreFew name ds = list_all (λ kind. nat_le (length (of_kind kind ds)) 1) (optional name) ≡ true

-- a frame alone, and before a MAC, by what each kind of request computes
module _ (kind : LoginKind) (fp : Bool) (frame : List ℕ) (ok : IsFrame frame) where
  abbrev words : ℕ
  words = length frame / 4 + 1

  abbrev alone : List Descriptor
  alone = frame_desc kind frame ∷ []

  known_first : ((may_be_skipped (kind_code kind) || words_fit (kind_code kind) words) && true) ≡ true
  known_first =
      let w = frame_words frame ok in
      and_from (may_be_skipped (kind_code kind) || words_fit (kind_code kind) words) true (or_right (may_be_skipped (kind_code kind)) (words_fit (kind_code kind) words) (fits kind words w.0 w.1)) refl

  reply_alone : (more : List ℕ) → IsOne Reply alone → AreFew Reply alone → message_of Reply (flag 0x8000 fp) alone ≡ LoginReply kind (has_flag 0x8000 (flag 0x8000 fp)) frame None → IsFip (LoginReply kind fp frame None) (written (LoginReply kind fp frame None) ++ more)
  unfolding written all_words
  reply_alone more one most says =
      let w = frame_words frame ok in
      let flags = one_flag fp in
      in_grammar _ Reply 2 2 _ _ alone more refl (lit< tt) flags.1 refl
      (record { whole = refl; sized = ap (λ b. b && true) (frame_size frame ok); known = known_first; few = omega (arith, w.1); one = one; most = most })
      (says ∙ same_reply kind frame flags.0 refl)

  module _ (mac : List ℕ) (six : IsMac mac) where
    abbrev both : List Descriptor
    both = frame_desc kind frame ∷ mac_of mac ∷ []

    with_both : (name : Name) → IsOne name both → AreFew name both → Is name both
    unfolding all_words
    with_both name one most =
        let w = frame_words frame ok in
        record { whole = refl; sized = ap (λ b. b && (is_sized (mac_of mac) && true)) (frame_size frame ok) ∙ with_mac mac true six refl; known = known_first; few = omega (arith, w.1); one = one; most = most }

    bytes_of_both : frame_bytes kind frame ++ mac_bytes mac ≡ flat_map descriptor_bytes both
    bytes_of_both = ap (λ m. frame_bytes kind frame ++ 2 ∷ 2 ∷ m) (sym (append-nil mac))

    login_by : (more : List ℕ) → IsOne Request both → AreFew Request both → message_of Request (flag 0x8000 fp) both ≡ Login kind (has_flag 0x8000 (flag 0x8000 fp)) frame (take 6 mac) → IsFip (Login kind fp frame mac) (written (Login kind fp frame mac) ++ more)
    unfolding written
    login_by more one most says =
        let flags = one_flag fp in
        in_grammar _ Request 2 1 _ _ both more bytes_of_both (lit< tt) flags.1 refl (with_both Request one most) (says ∙ same_login kind frame flags.0 (mac_back mac six))

    reply_by : (more : List ℕ) → IsOne Reply both → AreFew Reply both → message_of Reply (flag 0x8000 fp) both ≡ LoginReply kind (has_flag 0x8000 (flag 0x8000 fp)) frame (Some (take 6 mac)) → IsFip (LoginReply kind fp frame (Some mac)) (written (LoginReply kind fp frame (Some mac)) ++ more)
    unfolding written
    reply_by more one most says =
        let flags = one_flag fp in
        in_grammar _ Reply 2 2 _ _ both more bytes_of_both (lit< tt) flags.1 refl (with_both Reply one most) (says ∙ same_reply kind frame flags.0 (ap (λ m. Some m) (mac_back mac six)))

login : (kind : LoginKind) (fp : Bool) (frame mac : List ℕ) (more : List ℕ) → IsFrame frame → IsMac mac → IsFip (Login kind fp frame mac) (written (Login kind fp frame mac) ++ more)
login Flogi fp frame mac more ok six = login_by Flogi fp frame ok mac six more refl refl refl
login Fdisc fp frame mac more ok six = login_by Fdisc fp frame ok mac six more refl refl refl
login Logo fp frame mac more ok six = login_by Logo fp frame ok mac six more refl refl refl

login_reply : (kind : LoginKind) (fp : Bool) (frame : List ℕ) (mac : Option (List ℕ)) (more : List ℕ) → IsFrame frame → IfSome mac IsMac → IsFip (LoginReply kind fp frame mac) (written (LoginReply kind fp frame mac) ++ more)
login_reply Flogi fp frame None more ok six = reply_alone Flogi fp frame ok more refl refl refl
login_reply Fdisc fp frame None more ok six = reply_alone Fdisc fp frame ok more refl refl refl
login_reply Logo fp frame None more ok six = reply_alone Logo fp frame ok more refl refl refl
login_reply Flogi fp frame (Some mac) more ok six = reply_by Flogi fp frame ok mac six more refl refl refl
login_reply Fdisc fp frame (Some mac) more ok six = reply_by Fdisc fp frame ok mac six more refl refl refl
login_reply Logo fp frame (Some mac) more ok six = reply_by Logo fp frame ok mac six more refl refl refl

-- ---- lists of descriptors of one type

module _ {X : Type 0} (desc : X → Descriptor) (kind : ℕ) (is_kind : (x : X) → family (desc x).kind ≡ kind) (is_whole : (x : X) → (desc x).whole ≡ true) where
  of_same : (xs : List X) → of_kind kind (map desc xs) ≡ map desc xs
  of_same [] = refl
  of_same (x ∷ xs) = of_kind-hit kind (desc x) (map desc xs) (is_kind x) (is_whole x) ∙ ap (λ ds. desc x ∷ ds) (of_same xs)

  of_other : (other : ℕ) → (kind ≡ other → ⊥) → (xs : List X) → of_kind other (map desc xs) ≡ []
  of_other other isnt [] = refl
  of_other other isnt (x ∷ xs) = of_kind-miss other (desc x) (map desc xs) (λ e. isnt (sym (is_kind x) ∙ e)) ∙ of_other other isnt xs

  all_whole : (xs : List X) → list_all (λ d. d.whole) (map desc xs) ≡ true
  all_whole [] = refl
  all_whole (x ∷ xs) = ap (λ b. b && list_all (λ d. d.whole) (map desc xs)) (is_whole x) ∙ all_whole xs

vlan_desc : ℕ → Descriptor
vlan_desc n = made 14 1 (spelled 2 n)

vlan_flat : (vlans : List ℕ) → flat_map vlan_bytes vlans ≡ flat_map descriptor_bytes (map vlan_desc vlans)
unfolding vlan_desc
vlan_flat [] = refl
vlan_flat (n ∷ vlans) = ap (λ b. vlan_bytes n ++ b) (vlan_flat vlans)

vlan_sized : (vlans : List ℕ) → list_all is_sized (map vlan_desc vlans) ≡ true
unfolding vlan_desc
vlan_sized [] = refl
vlan_sized (n ∷ vlans) = vlan_sized vlans

vlan_known : (vlans : List ℕ) → list_all is_known (map vlan_desc vlans) ≡ true
unfolding vlan_desc
vlan_known [] = refl
vlan_known (n ∷ vlans) = vlan_known vlans

vlan_words : (vlans : List ℕ) → all_words (map vlan_desc vlans) ≡ length vlans
unfolding all_words vlan_desc
vlan_words [] = refl
vlan_words (n ∷ vlans) = omega (arith, vlan_words vlans)

below : (n k : ℕ) → nat_lt n k ≡ true → n < k
below n k e = grind (arith, nat_tests)

vlan_back : (n : ℕ) → n < 4096 → vlan_number (spelled 2 n) ≡ n
vlan_back n fits = ap (λ k. k % 4096) (big_endian-spelled 2 n (omega arith)) ∙ (let e : n % 4096 ≡ n = omega arith in e)

vlans_back : (vlans : List ℕ) → list_all (λ n. nat_lt n 4096) vlans ≡ true → map (λ d. vlan_number d.content) (map vlan_desc vlans) ≡ vlans
unfolding vlan_desc
vlans_back [] low = refl
vlans_back (n ∷ vlans) low =
    ap (λ k. k ∷ map (λ d. vlan_number d.content) (map vlan_desc vlans)) (vlan_back n (below n 4096 (and-left (nat_lt n 4096) (list_all (λ n. nat_lt n 4096) vlans) low)))
    ∙ ap (λ ks. n ∷ ks) (vlans_back vlans (and-right (nat_lt n 4096) (list_all (λ n. nat_lt n 4096) vlans) low))

vlan_tell : (mac : List ℕ) (vlans : List ℕ) (more : List ℕ) → IsMac mac → length vlans ≤ 100 → list_all (λ n. nat_lt n 4096) vlans ≡ true → IsFip (VlanTell mac vlans) (written (VlanTell mac vlans) ++ more)
unfolding written all_words vlan_desc
vlan_tell mac vlans more six few low =
    let rest = map vlan_desc vlans in
    let none = of_other vlan_desc 14 (λ x. refl) (λ x. refl) 2 (λ e. absurd (omega (arith, e))) vlans in
    in_grammar _ VlanNotification 4 2 0 _ (mac_of mac ∷ rest) more (ap (λ b. mac_bytes mac ++ b) (vlan_flat vlans)) (lit< tt) (lit< tt) refl
    (record {
      whole = all_whole vlan_desc 14 (λ x. refl) (λ x. refl) vlans;
      sized = with_mac mac (list_all is_sized rest) six (vlan_sized vlans);
      known = vlan_known vlans;
      few = omega (arith, vlan_words vlans, few);
      one = ap (λ (ds : List Descriptor). (length (mac_of mac ∷ ds) == 1) && true) none;
      most = refl;
    })
    (same_tell (mac_back mac six) (ap (map (λ d. vlan_number d.content)) (of_same vlan_desc 14 (λ x. refl) (λ x. refl) vlans) ∙ vlans_back vlans low))

port_flat : (ports : List VxPort) → flat_map vx_port_bytes ports ≡ flat_map descriptor_bytes (map vx_desc ports)
port_flat [] = refl
port_flat (p ∷ ports) = ap (λ b. vx_port_bytes p ++ b) (port_flat ports)

tail_of : (p : VxPort) (ports : List VxPort) → All IsPort (p ∷ ports) → All IsPort ports
tail_of p ports ok = λ k d lt. ok (suc k) d (omega (arith, lt))

port_sized : (ports : List VxPort) → All IsPort ports → list_all is_sized (map vx_desc ports) ≡ true
port_sized [] ok = refl
port_sized (p ∷ ports) ok = ap (λ b. b && list_all is_sized (map vx_desc ports)) (vx_size p (ok 0 p (omega arith))) ∙ port_sized ports (tail_of p ports ok)

port_known : (ports : List VxPort) → list_all is_known (map vx_desc ports) ≡ true
port_known [] = refl
port_known (p ∷ ports) = port_known ports

port_words : (ports : List VxPort) → all_words (map vx_desc ports) ≡ 5 * length ports
unfolding all_words
port_words [] = refl
port_words (p ∷ ports) = omega (arith, port_words ports)

ports_back : (ports : List VxPort) → All IsPort ports → map (λ d. vx_port d.content) (map vx_desc ports) ≡ ports
ports_back [] ok = refl
ports_back (p ∷ ports) ok =
    let one = ok 0 p (omega arith) in
    ap (λ q. q ∷ map (λ d. vx_port d.content) (map vx_desc ports)) (vx_back p.mac p.address p.name one.mac one.address one.name)
    ∙ ap (λ qs. p ∷ qs) (ports_back ports (tail_of p ports ok))

clear : (mac : List ℕ) (switch : ℕ) (ports : List VxPort) (more : List ℕ) → IsMac mac → switch < 2 ^ 64 → All IsPort ports → length ports ≤ 100 → IsFip (Clear mac switch ports) (written (Clear mac switch ports) ++ more)
unfolding written all_words
clear mac switch ports more six is_switch ok few =
    let rest = map vx_desc ports in
    let no_mac = of_other vx_desc 11 (λ x. refl) (λ x. refl) 2 (λ e. absurd (omega (arith, e))) ports in
    let no_name = of_other vx_desc 11 (λ x. refl) (λ x. refl) 4 (λ e. absurd (omega (arith, e))) ports in
    in_grammar _ ClearLinks 3 2 0 _ (mac_of mac ∷ name_desc switch ∷ rest) more (append_assoc (mac_bytes mac) (name_bytes switch) (flat_map vx_port_bytes ports) ∙ ap (λ b. mac_bytes mac ++ (name_bytes switch ++ b)) (port_flat ports)) (lit< tt) (lit< tt) refl
    (record {
      whole = all_whole vx_desc 11 (λ x. refl) (λ x. refl) ports;
      sized = with_mac mac (list_all is_sized rest) six (port_sized ports ok);
      known = port_known ports;
      few = omega (arith, port_words ports, few);
      one = ap (λ (ds : List Descriptor). (length (mac_of mac ∷ ds) == 1) && ((length (name_desc switch ∷ of_kind 4 rest) == 1) && true)) no_mac ∙ ap (λ (ds : List Descriptor). (length (name_desc switch ∷ ds) == 1) && true) no_name;
      most = refl;
    })
    (same_clear (mac_back mac six) (name_back switch is_switch) (ap (map (λ d. vx_port d.content)) (of_same vx_desc 11 (λ x. refl) (λ x. refl) ports) ∙ ports_back ports ok))

-- what is written is in the grammar
pub written-IsFip : (m : Fip) → CanWrite m → IsTyped m → (more : List ℕ) → IsFip m (written m ++ more)
written-IsFip (Solicit f fp mac node_name size) can typed more = solicit fp f mac node_name size more typed.0 typed.1 typed.2
written-IsFip (Advertise s a f fp priority mac switch fc_map fabric quiet period) can typed more = advertise s a f fp priority mac switch fc_map fabric quiet period more typed.0 typed.1 can typed.2 typed.3
written-IsFip (Login kind fp frame mac) can typed more = login kind fp frame mac more can typed
written-IsFip (LoginReply kind fp frame mac) can typed more = login_reply kind fp frame mac more can typed
written-IsFip (Keep mac port) can typed more = keep mac port more typed.0 typed.1
written-IsFip (Clear mac switch ports) can typed more = clear mac switch ports more typed.0 typed.1 typed.2 can
written-IsFip (VlanAsk mac node_name) can typed more = vlan_ask mac node_name more typed.0 typed.1
written-IsFip (VlanTell mac vlans) can typed more = vlan_tell mac vlans more typed can.0 can.1

-- and so it is read back
pub reads_back : (m : Fip) → CanWrite m → IsTyped m → (more : List ℕ) → decoded (written m ++ more) ≡ Ok m
reads_back m can typed more = decoded-from_IsFip m (written m ++ more) (written-IsFip m can typed more)
