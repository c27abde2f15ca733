-- The descriptors of a type, from the front of a list.
use Rattle.std.proofs.Common.{◌≡◌, ℕ, zero, suc, ◌+◌, ◌-◌, ◌*◌, ◌<◌, ◌≤◌, Bool, true, false, cond, ◌==◌, ◌&&◌, List, [], ◌∷◌, length, slice_get, drop, refl, ap, ◌∙◌, arith, length-drop}
use Rattle.std.proofs.lemmas.Bool.Decides.{nat_tests}
use Rattle.fip_codec.specs.Fip.{HEADER, Descriptor, family, of_kind}
use Rattle.fip_codec.specs.Walk.{listed, broken, of_type}

of_kind-cons : (kind : ℕ) (d : Descriptor) (ds : List Descriptor) → of_kind kind (d ∷ ds) ≡ cond (family d.kind == kind && d.whole) (d ∷ of_kind kind ds) (of_kind kind ds)
of_kind-cons kind d ds = refl

is_kind : (k kind : ℕ) (whole : Bool) → k ≡ kind → whole ≡ true → (k == kind && whole) ≡ true
is_kind k kind whole e w = grind (arith, nat_tests)

no_kind : (k kind : ℕ) (whole : Bool) → (k ≡ kind → ⊥) → (k == kind && whole) ≡ false
no_kind k kind whole e = grind (arith, nat_tests)

no_whole : (b whole : Bool) → whole ≡ false → (b && whole) ≡ false
no_whole true whole w = w
no_whole false whole w = refl

pub of_kind-hit : (kind : ℕ) (d : Descriptor) (ds : List Descriptor) → family d.kind ≡ kind → d.whole ≡ true → of_kind kind (d ∷ ds) ≡ d ∷ of_kind kind ds
of_kind-hit kind d ds e w = of_kind-cons kind d ds ∙ ap (λ b. cond b (d ∷ of_kind kind ds) (of_kind kind ds)) (is_kind (family d.kind) kind d.whole e w)

pub of_kind-miss : (kind : ℕ) (d : Descriptor) (ds : List Descriptor) → (family d.kind ≡ kind → ⊥) → of_kind kind (d ∷ ds) ≡ of_kind kind ds
of_kind-miss kind d ds e = of_kind-cons kind d ds ∙ ap (λ b. cond b (d ∷ of_kind kind ds) (of_kind kind ds)) (no_kind (family d.kind) kind d.whole e)

pub of_kind-broken : (kind : ℕ) (d : Descriptor) (ds : List Descriptor) → d.whole ≡ false → of_kind kind (d ∷ ds) ≡ of_kind kind ds
of_kind-broken kind d ds e = of_kind-cons kind d ds ∙ ap (λ b. cond b (d ∷ of_kind kind ds) (of_kind kind ds)) (no_whole (family d.kind == kind) d.whole e)

-- where a list that ends at this place begins
abbrev pub from : List ℕ → List ℕ → ℕ
from all rest = HEADER + (length all - length rest)

from-more : (all rest more : List ℕ) (words : ℕ) → length rest ≤ length all → more ≡ drop (4 * words) rest → 4 * words ≤ length rest → from all rest + 4 * words ≡ from all more
from-more all rest more words le e fits = let k : length more ≡ length rest - 4 * words = ap length e ∙ length-drop (4 * words) rest in omega arith

module _ (kind : ℕ) (all rest more : List ℕ) (d : Descriptor) (le : length rest ≤ length all) (is_more : more ≡ drop (4 * d.words) rest) (fits : 4 * d.words ≤ length rest) (is : listed (from all rest) rest ≡ d ∷ listed (from all rest + 4 * d.words) more) where
  next : listed (from all rest) rest ≡ d ∷ listed (from all more) more
  next = is ∙ ap (λ at. d ∷ listed at more) (from-more all rest more d.words le is_more fits)

  pub of_type-hit : family d.kind ≡ kind → d.whole ≡ true → of_type kind (from all rest) rest ≡ d ∷ of_type kind (from all more) more
  unfolding of_type
  of_type-hit e w = ap (of_kind kind) next ∙ of_kind-hit kind d (listed (from all more) more) e w

  pub of_type-miss : (family d.kind ≡ kind → ⊥) → of_type kind (from all rest) rest ≡ of_type kind (from all more) more
  unfolding of_type
  of_type-miss e = ap (of_kind kind) next ∙ of_kind-miss kind d (listed (from all more) more) e

  pub less : length more < length rest → length more ≤ length all
  less lt = omega arith

-- a list of which nothing can be cut off has no type
pub of_type-end : (kind at : ℕ) (l : List ℕ) → (length l ≡ 0 → (at : ℕ) → listed at l ≡ []) → (0 < length l → (at : ℕ) → listed at l ≡ broken at l ∷ []) → of_type kind at l ≡ []
unfolding of_type
of_type-end kind at [] none some = ap (of_kind kind) (none refl at)
of_type-end kind at (b ∷ l) none some = ap (of_kind kind) (some (omega arith) at) ∙ of_kind-broken kind (broken at (b ∷ l)) [] refl

-- the place in a list from which one was cut off
pub get-hit : (l : List Descriptor) (d : Descriptor) (ds : List Descriptor) (left : ℕ) → l ≡ d ∷ ds → 0 < left → slice_get l left ≡ slice_get ds (left - 1)
get-hit l d ds zero e pos = absurd (omega arith)
get-hit l d ds (suc left) e pos = ap (λ m. slice_get m (suc left)) e ∙ ap (slice_get ds) (let one : left ≡ suc left - 1 = omega arith in one)

pub start : (l : List ℕ) → from l l ≡ HEADER
start l = omega arith
