-- A list that lacks no required type has each of them.
use Rattle.std.proofs.Common.{◌≡◌, ℕ, suc, ◌+◌, ◌<◌, Bool, true, false, not, ◌==◌, ◌||◌, cond, List, [], ◌∷◌, Option, Some, None, refl, sym, ap, ◌∙◌, arith, length, drop, get_or, drop-cons}
use Rattle.std.specs.List.{list_any, find}
use Rattle.std.specs.Option.{option_map}
use Rattle.std.proofs.lemmas.Bool.Decides.{nat_tests}
use Rattle.fip_codec.specs.Fip.{HEADER, Name, required}
use Rattle.fip_codec.specs.Reading.{has_kind}
use Rattle.fip_codec.specs.Walk.{listed, lacks, has_type}
use Rattle.fip_codec.specs.declared.fault.FipFault.TheVariants.{Missing}

same : (a b : ℕ) → (a == b) ≡ true → a ≡ b
same a b e = grind (arith, nat_tests)

first_is : (p : ℕ → Bool) (x kind : ℕ) (t is : Bool) (more : Option ℕ) → t ≡ p x → is ≡ (x == kind) → option_map (λ k. Missing k) (cond (not t) (Some x) more) ≡ None → (is ≡ true → p kind ≡ true)
first_is p x kind false is more pt ist e = cc
first_is p x kind true is more pt ist e = λ yes. ap p (sym (same x kind (sym ist ∙ yes))) ∙ sym pt

rest_is : (t : Bool) (x : ℕ) (more : Option ℕ) → option_map (λ k. Missing k) (cond (not t) (Some x) more) ≡ None → option_map (λ k. Missing k) more ≡ None
rest_is true x more e = e
rest_is false x more e = cc

pub present_in : (p : ℕ → Bool) (kind : ℕ) (kinds : List ℕ) → option_map (λ k. Missing k) (find (λ k. not (p k)) kinds) ≡ None → list_any (λ k. k == kind) kinds ≡ true → p kind ≡ true
present_in p kind [] e among = cc
present_in p kind (x ∷ kinds) e among = by_first (x == kind) refl (present_in p kind kinds (rest_is (p x) x (find (λ k. not (p k)) kinds) e)) among
  where
    by_first : (b : Bool) → b ≡ (x == kind) → (list_any (λ k. k == kind) kinds ≡ true → p kind ≡ true) → (b || list_any (λ k. k == kind) kinds) ≡ true → p kind ≡ true
    by_first true is rest among = first_is p x kind (p x) true (find (λ k. not (p k)) kinds) refl is e refl
    by_first false is rest among = rest among

pub present : (name : Name) (kind : ℕ) (l : List ℕ) → lacks name l ≡ None → list_any (λ k. k == kind) (required name) ≡ true → has_type kind l ≡ true
unfolding lacks has_type
present name kind l none among = present_in (λ k. has_kind k (listed HEADER l)) kind (required name) none among

-- ---- the first that is absent

pub find-hit : (p : ℕ → Bool) (xs : List ℕ) (i : ℕ) → i < length xs → p (get_or xs i 0) ≡ true → find p (drop i xs) ≡ Some (get_or xs i 0)
find-hit p xs i lt e = ap (find p) (drop-cons xs i 0 lt) ∙ ap (λ b. cond b (Some (get_or xs i 0)) (find p (drop (suc i) xs))) e

pub find-miss : (p : ℕ → Bool) (xs : List ℕ) (i : ℕ) → i < length xs → p (get_or xs i 0) ≡ false → find p (drop i xs) ≡ find p (drop (i + 1) xs)
find-miss p xs i lt e = ap (find p) (drop-cons xs i 0 lt) ∙ ap (λ b. cond b (Some (get_or xs i 0)) (find p (drop (suc i) xs))) e ∙ ap (λ n. find p (drop n xs)) (let one : suc i ≡ i + 1 = omega arith in one)

-- whether a list lacks a type
abbrev pub absent : List ℕ → ℕ → Bool
absent l kind = not (has_type kind l)

pub lacks-is : (name : Name) (l : List ℕ) (first : Option ℕ) → find (absent l) (required name) ≡ first → lacks name l ≡ option_map (λ k. Missing k) first
unfolding lacks has_type
lacks-is name l first e = ap (option_map (λ k. Missing k)) e
