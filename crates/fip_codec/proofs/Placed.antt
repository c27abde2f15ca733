-- Descriptors with their places in a body. What a message says doesn't depend on the places.
use Rattle.std.proofs.Common.{◌≡◌, ℕ, ◌+◌, ◌-◌, ◌*◌, ◌<◌, Bool, true, false, cond, ◌&&◌, ◌||◌, ◌==◌, nat_lt, List, [], ◌∷◌, ◌++◌, map, length, if◌then◌else◌, refl, sym, ap, ◌∙◌, arith, take_at, drop_at, length-append}
use Rattle.std.specs.List.{list_all, flat_map}
use Rattle.std.proofs.lemmas.List.{length-map}
use Rattle.std.proofs.lemmas.Bool.Decides.{nat_tests}
use Rattle.fip_codec.specs.declared.message.LoginKind.{LoginKind}
use Rattle.fip_codec.specs.declared.message.LoginKind.TheVariants.{Flogi, Fdisc, Logo}
use Rattle.fip_codec.specs.Fip.{Descriptor, Name, Solicitation, Advertisement, Request, Reply, KeepAlive, ClearLinks, VlanRequest, VlanNotification, may_be_skipped, words_fit, family, of_kind, content_of, vx_port, vlan_number}
use Rattle.fip_codec.specs.Reading.{has_kind, kind_of, message_of, descriptor_bytes}
use Rattle.fip_codec.specs.Table.{parts}
use Rattle.fip_codec.specs.Walk.{listed}
use Rattle.fip_codec.proofs.Sound.{and-left, and-right}
use Rattle.fip_codec.proofs.Grammar.{is_sized}
use Rattle.fip_codec.proofs.Listed.{listed-nil, listed-whole}

pub placed : ℕ → List Descriptor → List Descriptor
placed at [] = []
placed at (d ∷ ds) = record d { at = at } ∷ placed (at + 4 * d.words) ds

sized : (n words : ℕ) → (n + 2 == 4 * words && nat_lt 0 words) ≡ true → (n + 2 ≡ 4 * words) × (0 < words)
sized n words e = (equal (n + 2) (4 * words) (and-left (n + 2 == 4 * words) (nat_lt 0 words) e), some words (and-right (n + 2 == 4 * words) (nat_lt 0 words) e))
  where
    equal : (a b : ℕ) → (a == b) ≡ true → a ≡ b
    equal a b e = grind (arith, nat_tests)

    some : (a : ℕ) → nat_lt 0 a ≡ true → 0 < a
    some a e = grind (arith, nat_tests)

-- descriptors that are spelled one after another are listed
pub listed-spelled : (at : ℕ) (ds : List Descriptor) → list_all (λ d. d.whole) ds ≡ true → list_all is_sized ds ≡ true → listed at (flat_map descriptor_bytes ds) ≡ placed at ds
unfolding placed
listed-spelled at [] whole size = listed-nil at
listed-spelled at (d ∷ ds) whole size =
    let rest = flat_map descriptor_bytes ds in
    let s = sized (length d.content) d.words (and-left (is_sized d) (list_all is_sized ds) size) in
    let k = 4 * d.words - 2 in
    let len : length d.content ≡ k = omega arith in
    listed-whole (d.kind ∷ d.words ∷ (d.content ++ rest)) d.content rest (omega arith) s.1 (omega (arith, length-append d.content rest)) (sym (take_at d.content rest k len)) (sym (drop_at d.content rest k len)) at
    ∙ ap (λ (w : Bool). record { at = at; kind = d.kind; words = d.words; content = d.content; whole = w } ∷ listed (at + 4 * d.words) rest) (sym (and-left d.whole (list_all (λ d. d.whole) ds) whole))
    ∙ ap (λ m. record d { at = at } ∷ m) (listed-spelled (at + 4 * d.words) ds (and-right d.whole (list_all (λ d. d.whole) ds) whole) (and-right (is_sized d) (list_all is_sized ds) size))

-- ---- what doesn't depend on the places

same_parts : (b : Bool) (x y : Descriptor) (xs ys : List Descriptor) → parts x ≡ parts y → map parts xs ≡ map parts ys → map parts (cond b (x ∷ xs) xs) ≡ map parts (cond b (y ∷ ys) ys)
same_parts true x y xs ys e f = ap (λ p. p ∷ map parts xs) e ∙ ap (λ m. parts y ∷ m) f
same_parts false x y xs ys e f = f

pub parts-placed : (kind at : ℕ) (ds : List Descriptor) → map parts (of_kind kind (placed at ds)) ≡ map parts (of_kind kind ds)
unfolding placed
parts-placed kind at [] = refl
parts-placed kind at (d ∷ ds) = same_parts (family d.kind == kind && d.whole) (record d { at = at }) d (of_kind kind (placed (at + 4 * d.words) ds)) (of_kind kind ds) refl (parts-placed kind (at + 4 * d.words) ds)

pub has_kind-placed : (kind at : ℕ) (ds : List Descriptor) → has_kind kind (placed at ds) ≡ has_kind kind ds
unfolding placed
has_kind-placed kind at [] = refl
has_kind-placed kind at (d ∷ ds) = ap (λ b. family d.kind == kind || b) (has_kind-placed kind (at + 4 * d.words) ds)

pub whole-placed : (at : ℕ) (ds : List Descriptor) → list_all (λ d. d.whole) (placed at ds) ≡ list_all (λ d. d.whole) ds
unfolding placed
whole-placed at [] = refl
whole-placed at (d ∷ ds) = ap (λ b. d.whole && b) (whole-placed (at + 4 * d.words) ds)

pub known-placed : (at : ℕ) (ds : List Descriptor) → list_all (λ d. may_be_skipped d.kind || words_fit d.kind d.words) (placed at ds) ≡ list_all (λ d. may_be_skipped d.kind || words_fit d.kind d.words) ds
unfolding placed
known-placed at [] = refl
known-placed at (d ∷ ds) = ap (λ b. (may_be_skipped d.kind || words_fit d.kind d.words) && b) (known-placed (at + 4 * d.words) ds)

pub length-placed : (kind at : ℕ) (ds : List Descriptor) → length (of_kind kind (placed at ds)) ≡ length (of_kind kind ds)
length-placed kind at ds = sym (length-map (of_kind kind (placed at ds)) parts) ∙ ap length (parts-placed kind at ds) ∙ length-map (of_kind kind ds) parts

content_in : List (ℕ × List ℕ) → List ℕ
content_in [] = []
content_in (p ∷ ps) = p.1

kind_in : List (ℕ × List ℕ) → LoginKind
kind_in [] = Flogi
kind_in (p ∷ ps) = (if p.0 == 8 then Fdisc else if p.0 == 9 then Logo else Flogi)

content_by : (ds : List Descriptor) → (elim ds as (λ _. List ℕ) [ [] ↦ [] | d ∷ _ ↦ d.content ]) ≡ content_in (map parts ds)
unfolding content_in
content_by [] = refl
content_by (d ∷ ds) = refl

kind_by : (ds : List Descriptor) → (elim ds as (λ _. LoginKind) [ [] ↦ Flogi | d ∷ _ ↦ (if d.kind == 8 then Fdisc else if d.kind == 9 then Logo else Flogi) ]) ≡ kind_in (map parts ds)
unfolding kind_in
kind_by [] = refl
kind_by (d ∷ ds) = refl

map_by : {X : Type 0} (f : List ℕ → X) (ds : List Descriptor) → map (λ d. f d.content) ds ≡ map (λ p. f p.1) (map parts ds)
map_by f [] = refl
map_by f (d ∷ ds) = ap (λ m. f d.content ∷ m) (map_by f ds)

module _ (at : ℕ) (ds : List Descriptor) where
  content : (kind : ℕ) → content_of kind (placed at ds) ≡ content_of kind ds
  content kind = content_by (of_kind kind (placed at ds)) ∙ ap content_in (parts-placed kind at ds) ∙ sym (content_by (of_kind kind ds))

  login_kind : kind_of (placed at ds) ≡ kind_of ds
  login_kind = kind_by (of_kind 7 (placed at ds)) ∙ ap kind_in (parts-placed 7 at ds) ∙ sym (kind_by (of_kind 7 ds))

  mapped : {X : Type 0} (f : List ℕ → X) (kind : ℕ) → map (λ d. f d.content) (of_kind kind (placed at ds)) ≡ map (λ d. f d.content) (of_kind kind ds)
  mapped f kind = map_by f (of_kind kind (placed at ds)) ∙ ap (map (λ p. f p.1)) (parts-placed kind at ds) ∙ sym (map_by f (of_kind kind ds))

  pub message_of-placed : (name : Name) (flags : ℕ) → message_of name flags (placed at ds) ≡ message_of name flags ds
  message_of-placed Solicitation flags = cc (content 2, content 4, content 6)
  message_of-placed Advertisement flags = cc (content 1, content 2, content 4, content 5, content 12)
  message_of-placed Request flags = cc (login_kind, content 7, content 2)
  message_of-placed Reply flags = cc (login_kind, content 7, content 2, has_kind-placed 2 at ds)
  message_of-placed KeepAlive flags = cc (content 2, content 11, has_kind-placed 11 at ds)
  message_of-placed ClearLinks flags = cc (content 2, content 4, mapped vx_port 11)
  message_of-placed VlanRequest flags = cc (content 2, content 4, has_kind-placed 4 at ds)
  message_of-placed VlanNotification flags = cc (content 2, mapped vlan_number 14)
