-- What a list of sound descriptors says of each of them.
use Rattle.std.proofs.Common.{◌≡◌, ℕ, zero, suc, ◌+◌, ◌*◌, ◌≤◌, Bool, true, false, cond, nat_le, nat_lt, ◌==◌, ◌&&◌, ◌||◌, List, [], ◌∷◌, length, slice_get, refl, sym, ap, ◌∙◌, subst, Option, Some, None, is_some, arith}
use Rattle.std.specs.List.{list_all}
use Rattle.std.specs.Option.{option_map, unwrap_or}
use Rattle.std.proofs.lemmas.Bool.Decides.{nat_tests}
use Rattle.fip_codec.specs.Fip.{HEADER, Descriptor, family, of_kind, content_of, words_fit, may_be_skipped}
use Rattle.fip_codec.specs.Reading.{has_kind}
use Rattle.fip_codec.specs.Table.{parts}
use Rattle.fip_codec.specs.Walk.{listed, of_type, has_type, said, are_sound, is_sound, room}

pub and-left : (a b : Bool) → (a && b) ≡ true → a ≡ true
and-left true b e = refl
and-left false b e = e

pub and-right : (a b : Bool) → (a && b) ≡ true → b ≡ true
and-right true b e = e
and-right false b e = cc

-- a descriptor of a type, and what all of the list pass
abbrev Passes : (Descriptor → Bool) → ℕ → Descriptor → Type 0
Passes p kind d = (p d ≡ true) × (family d.kind ≡ kind)

is_kind : (k kind : ℕ) (whole : Bool) → (k == kind && whole) ≡ true → k ≡ kind
is_kind k kind whole e = let t = and-left (k == kind) whole e in grind (arith, nat_tests)

member_first : (p : Descriptor → Bool) (kind : ℕ) (x d : Descriptor) (b : Bool) (more : List Descriptor) (i : ℕ) → (family x.kind == kind && x.whole) ≡ b → p x ≡ true
    → ((j : ℕ) → slice_get more j ≡ Some d → Passes p kind d) → slice_get (cond b (x ∷ more) more) i ≡ Some d → Passes p kind d
member_first p kind x d false more i t px rest e = rest i e
member_first p kind x d true more zero t px rest e =
    let same : x ≡ d = cc in
    subst (λ y. Passes p kind y) same (px, is_kind (family x.kind) kind x.whole t)
member_first p kind x d true more (suc i) t px rest e = rest i e

pub member : (p : Descriptor → Bool) (kind : ℕ) (ds : List Descriptor) (i : ℕ) (d : Descriptor) → list_all p ds ≡ true → slice_get (of_kind kind ds) i ≡ Some d → Passes p kind d
member p kind [] i d all e = cc
member p kind (x ∷ ds) i d all e =
    member_first p kind x d (family x.kind == kind && x.whole) (of_kind kind ds) i refl (and-left (p x) (list_all p ds) all) (λ j at. member p kind ds j d (and-right (p x) (list_all p ds) all) at) e

room_fits : (k w n : ℕ) → words_fit k w ≡ true → n + 2 ≡ 4 * w → room (family k) ≤ n
room_fits k w n f e = grind (arith, nat_tests)

room_skipped : (k n : ℕ) → nat_le 128 k ≡ true → room (family k) ≤ n
room_skipped k n e = grind (arith, nat_tests)

same_size : (n w : ℕ) → (n + 2 == 4 * w) ≡ true → n + 2 ≡ 4 * w
same_size n w e = grind (arith, nat_tests)

room_either : (k w n : ℕ) (a b : Bool) → a ≡ nat_le 128 k → b ≡ words_fit k w → (a || b) ≡ true → n + 2 ≡ 4 * w → room (family k) ≤ n
room_either k w n true b is_a is_b e size = room_skipped k n (sym is_a)
room_either k w n false b is_a is_b e size = room_fits k w n (sym is_b ∙ e) size

room_of : (k w n : ℕ) (whole : Bool) → (whole && (n + 2 == 4 * w) && nat_lt 0 w && (may_be_skipped k || words_fit k w)) ≡ true → room (family k) ≤ n
room_of k w n whole e =
    let three = and-left (whole && (n + 2 == 4 * w) && nat_lt 0 w) (may_be_skipped k || words_fit k w) e in
    let two = and-right whole (n + 2 == 4 * w) (and-left (whole && (n + 2 == 4 * w)) (nat_lt 0 w) three) in
    let known = and-right (whole && (n + 2 == 4 * w) && nat_lt 0 w) (may_be_skipped k || words_fit k w) e in
    room_either k w n (nat_le 128 k) (words_fit k w) refl refl known (same_size n w two)

-- each descriptor of a type has the room of its type
pub room_at : (l : List ℕ) (kind i : ℕ) (d : Descriptor) → are_sound l ≡ true → slice_get (of_type kind HEADER l) i ≡ Some d → room kind ≤ length d.content
unfolding are_sound of_type
room_at l kind i d sound at =
    let m = member is_sound kind (listed HEADER l) i d sound at in
    subst (λ k. room k ≤ length d.content) m.1 (room_of d.kind d.words (length d.content) d.whole m.0)

-- ---- the first descriptor of a type

has_first_if : (b whole rest : Bool) (x : Descriptor) (more : List Descriptor) → whole ≡ true → rest ≡ is_some (slice_get more 0) → (b || rest) ≡ is_some (slice_get (cond (b && whole) (x ∷ more) more) 0)
has_first_if true true rest x more w e = refl
has_first_if true false rest x more w e = cc
has_first_if false whole rest x more w e = e

pub is_whole : (d : Descriptor) → is_sound d ≡ true → d.whole ≡ true
is_whole d e = and-left d.whole (length d.content + 2 == 4 * d.words) (and-left (d.whole && (length d.content + 2 == 4 * d.words)) (nat_lt 0 d.words) (and-left (d.whole && (length d.content + 2 == 4 * d.words) && nat_lt 0 d.words) (may_be_skipped d.kind || words_fit d.kind d.words) e))

pub has_first : (kind : ℕ) (ds : List Descriptor) → list_all is_sound ds ≡ true → has_kind kind ds ≡ is_some (slice_get (of_kind kind ds) 0)
has_first kind [] all = refl
has_first kind (x ∷ ds) all =
    has_first_if (family x.kind == kind) x.whole (has_kind kind ds) x (of_kind kind ds) (is_whole x (and-left (is_sound x) (list_all is_sound ds) all)) (has_first kind ds (and-right (is_sound x) (list_all is_sound ds) all))

content_first : (kind : ℕ) (ds : List Descriptor) (d : Descriptor) → slice_get (of_kind kind ds) 0 ≡ Some d → content_of kind ds ≡ d.content
content_first kind ds d e = by_list (of_kind kind ds) e
  where
    by_list : (l : List Descriptor) → slice_get l 0 ≡ Some d → elim l as (λ _. List ℕ) [ [] ↦ [] | d ∷ _ ↦ d.content ] ≡ d.content
    by_list [] e = cc
    by_list (x ∷ l) e = cc

pub parts_of : (x : Option Descriptor) (k : ℕ) (content : List ℕ) → Some (k, content) ≡ option_map parts x → (d : Descriptor) × (x ≡ Some d) × (d.kind ≡ k) × (d.content ≡ content)
parts_of None k content e = cc
parts_of (Some d) k content e = let p = ap (λ o. unwrap_or o (k, content)) e in (d, refl, sym (ap (λ x. x.0) p), sym (ap (λ x. x.1) p))

-- what `found` of the first says of the type
pub first_there : (l : List ℕ) (kind k : ℕ) (content : List ℕ) → are_sound l ≡ true → Some (k, content) ≡ option_map parts (slice_get (of_type kind HEADER l) 0) → (has_type kind l ≡ true) × (said kind l ≡ content)
unfolding are_sound of_type has_type said
first_there l kind k content sound e =
    let p = parts_of (slice_get (of_kind kind (listed HEADER l)) 0) k content e in
    (has_first kind (listed HEADER l) sound ∙ ap is_some p.1, content_first kind (listed HEADER l) p.0 p.1 ∙ p.3)

pub none_of : (x : Option Descriptor) → None ≡ option_map parts x → x ≡ None
none_of None e = refl
none_of (Some d) e = cc

pub first_absent : (l : List ℕ) (kind : ℕ) → are_sound l ≡ true → None ≡ option_map parts (slice_get (of_type kind HEADER l) 0) → has_type kind l ≡ false
unfolding are_sound of_type has_type
first_absent l kind sound e = has_first kind (listed HEADER l) sound ∙ ap is_some (none_of (slice_get (of_kind kind (listed HEADER l)) 0) e)
