-- The place of a name among the keys of an index.
use Rattle.std.proofs.Common.{◌≡◌, ℕ, ◌+◌, List, [], ◌∷◌, ◌++◌, Bool, true, false, cond, ◌||◌, Option, Some, None, refl, sym, ◌∙◌, ap, map, Vec, position}
use Rattle.std.proofs.lemmas.Iterator.Adapters.{position_from-zero}
use Rattle.std.proofs.lemmas.List.{map_push}
use Rattle.std.specs.List.{list_any, position_from}
use Rattle.std.specs.Str.{bytes_eq}
use Rattle.std.specs.declared.alloc.Global.{Global}
use Rattle.fab_config.specs.Names.{place, place_from}

abbrev pub names_of : List (Vec ℕ Global) → List (List ℕ)
names_of keys = map (λ (n : Vec ℕ Global). n.items) keys

place_from-is : (n : ℕ) (x : List ℕ) (keys : List (Vec ℕ Global)) → place_from n x (names_of keys) ≡ position_from (λ (k : Vec ℕ Global). bytes_eq x k.items) n keys
place_from-is n x [] = refl
place_from-is n x (k ∷ keys) = ap (λ (o : Option ℕ). cond (bytes_eq x k.items) (Some n) o) (place_from-is (n + 1) x keys)

pub place-is : (x : List ℕ) (keys : List (Vec ℕ Global)) → place x (names_of keys) ≡ position (λ (k : Vec ℕ Global). bytes_eq x k.items) keys
place-is x keys = place_from-is 0 x keys ∙ sym (position_from-zero (λ (k : Vec ℕ Global). bytes_eq x k.items) keys)

-- a name without a place is none of them
pub none-place : (n : ℕ) (x : List ℕ) (keys : List (Vec ℕ Global)) → place_from n x (names_of keys) ≡ None → list_any (λ (k : Vec ℕ Global). bytes_eq x k.items) keys ≡ false
none-place n x [] e = refl
none-place n x (k ∷ keys) e = by (bytes_eq x k.items) (λ f. none-place (n + 1) x keys f) e
  where
    by : (t : Bool) → (place_from (n + 1) x (names_of keys) ≡ None → list_any (λ (k : Vec ℕ Global). bytes_eq x k.items) keys ≡ false)
        → cond t (Some n) (place_from (n + 1) x (names_of keys)) ≡ None → (t || list_any (λ (k : Vec ℕ Global). bytes_eq x k.items) keys) ≡ false
    by true ih h = absurd (cc)
    by false ih h = ih h

-- a new name goes last
pub pushed : (x : List ℕ) (key : Vec ℕ Global) (keys : List (Vec ℕ Global)) → key.items ≡ x → place x (names_of keys) ≡ None
    → names_of (cond (list_any (λ (k : Vec ℕ Global). bytes_eq key.items k.items) keys) keys (keys ++ key ∷ [])) ≡ names_of keys ++ x ∷ []
pushed x key keys is none =
    ap (λ b. names_of (cond b keys (keys ++ key ∷ []))) (ap (λ (m : List ℕ). list_any (λ (k : Vec ℕ Global). bytes_eq m k.items) keys) is ∙ none-place 0 x keys none)
    ∙ map_push (λ (n : Vec ℕ Global). n.items) keys key ∙ ap (λ (m : List ℕ). names_of keys ++ m ∷ []) is
