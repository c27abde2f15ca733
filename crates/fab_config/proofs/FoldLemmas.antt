-- The lines of a written configuration, read one after another.
use Rattle.std.proofs.Common.{◌≡◌, ℕ, suc, ◌+◌, ◌≤◌, List, [], ◌∷◌, ◌++◌, length, map, Bool, true, false, cond, not, eqb, leb, ◌&&◌, ◌||◌, Option, Some, Result, Ok, Err, refl, sym, ◌∙◌, ap, subst, arith}
use Rattle.std.specs.List.{list_all, list_any, flat_map}
use Rattle.std.specs.Option.{option_map, option_and_then}
use Rattle.std.proofs.lemmas.List.{append_assoc, append-nil}
use Rattle.fab_config.specs.Settings.{same_bytes, all_differ}
use Rattle.fab_config.specs.Lines.{lines_of, words, is_skipped, is_ascii}
use Rattle.fab_config.specs.Names.{place_from}
use Rattle.fab_config.specs.Values.{all_of, once, once_from}
use Rattle.fab_config.specs.Text.{keyword_of, with_keyword, with_words, line_read, lines_read, listed}
use Rattle.fab_config.specs.Written.{spaced, line_text}
use Rattle.fab_config.specs.declared.ConfigWhy.{ConfigWhy}
use Rattle.fab_config.specs.declared.ConfigWhy.TheVariants as why
use Rattle.fab_config.specs.declared.draft.Draft.{Draft}
use Rattle.fab_config.specs.declared.keyword.Keyword.{Keyword}
use Rattle.fab_config.proofs.BackLemmas.{is_word, are_words, words_back, line_ascii, lines_line}
use Rattle.fab_config.proofs.ReadLemmas.{lines_ok}
use Rattle.std.proofs.lemmas.Bool.{and_parts, and_from, or_parts}
use Rattle.std.specs.Cmp.{nat_eq_equiv}

-- a line of a key with its words is read by its key
pub key_line : (d next : Draft) (key : List ℕ) (values : List (List ℕ)) (k : Keyword) → is_word key ≡ true → 1 ≤ length key → is_skipped (key ++ flat_map spaced values) ≡ false
    → keyword_of key ≡ Some k → are_words values ≡ true → with_keyword d k values ≡ Ok next → line_read d (key ++ flat_map spaced values) ≡ Ok next
unfolding line_read
key_line d next key values k word some open_line is w e =
    ap (λ t. elim t as (λ _. Result Draft ConfigWhy) [ true ↦ Ok d | false ↦ elim (is_ascii (key ++ flat_map spaced values)) as (λ _. Result Draft ConfigWhy) [ false ↦ Err why.Ascii | true ↦ with_words d (words (key ++ flat_map spaced values)) ] ]) open_line
    ∙ ap (λ t. elim t as (λ _. Result Draft ConfigWhy) [ false ↦ Err why.Ascii | true ↦ with_words d (words (key ++ flat_map spaced values)) ]) (line_ascii key values word w)
    ∙ ap (with_words d) (words_back key values word some w)
    ∙ ap (λ (o : Option Keyword). Rattle.fab_config.specs.Text.with_key d o values) is ∙ e

pub line_step : (n : ℕ) (d next : Draft) (key : List ℕ) (values : List (List ℕ)) (k : Keyword) (rest : List ℕ) → is_word key ≡ true → 1 ≤ length key → is_skipped (key ++ flat_map spaced values) ≡ false
    → keyword_of key ≡ Some k → are_words values ≡ true → with_keyword d k values ≡ Ok next → lines_read n d (lines_of (line_text key values ++ rest)) ≡ lines_read (n + 1) next (lines_of rest)
line_step n d next key values k rest word some open_line is w e =
    let l = key ++ flat_map spaced values in
    sym (lines_ok n d next (lines_of (line_text key values ++ rest)) (lines_of rest) l
    (ap lines_of (append_assoc l (10 ∷ []) rest) ∙ lines_line l rest (line_ascii key values word w))
    (key_line d next key values k word some open_line is w e))

-- a list, of which each item stands on a line of its own
pub items_read : {X : Type 0} (with_items : List X → Draft) (line : X → List ℕ) (Fine : List X → Type 0)
    → ((n : ℕ) (done more : List X) (x : X) (rest : List ℕ) → Fine (done ++ x ∷ more) → lines_read n (with_items done) (lines_of (line x ++ rest)) ≡ lines_read (n + 1) (with_items (done ++ x ∷ [])) (lines_of rest))
    → (n : ℕ) (done l : List X) (rest : List ℕ) → Fine (done ++ l) → lines_read n (with_items done) (lines_of (flat_map line l ++ rest)) ≡ lines_read (n + length l) (with_items (done ++ l)) (lines_of rest)
items_read {X} with_items line Fine step n done [] rest fine =
    ap (λ (m : ℕ). lines_read m (with_items done) (lines_of rest)) (let e : n ≡ n + 0 = omega arith in e)
    ∙ ap (λ (k : List X). lines_read (n + 0) (with_items k) (lines_of rest)) (sym (append-nil done))
items_read {X} with_items line Fine step n done (x ∷ l) rest fine =
    ap (λ k. lines_read n (with_items done) (lines_of k)) (append_assoc (line x) (flat_map line l) rest)
    ∙ step n done l x (flat_map line l ++ rest) fine
    ∙ items_read with_items line Fine step (n + 1) (done ++ x ∷ []) l rest (subst Fine (sym (append_assoc done (x ∷ []) l)) fine)
    ∙ ap (λ (m : ℕ). lines_read m (with_items ((done ++ x ∷ []) ++ l)) (lines_of rest)) (let e : n + 1 + length l ≡ n + suc (length l) = omega arith in e)
    ∙ ap (λ (k : List X). lines_read (n + suc (length l)) (with_items k) (lines_of rest)) (append_assoc done (x ∷ []) l)

-- ---- names

-- a name that differs from those before has no place among them
pub place_past : (k : ℕ) (x : List ℕ) (names more : List (List ℕ)) → list_any (λ y. same_bytes x y) names ≡ false → place_from k x (names ++ more) ≡ place_from (k + length names) x more
place_past k x [] more h = ap (λ (n : ℕ). place_from n x more) (let e : k ≡ k + 0 = omega arith in e)
place_past k x (y ∷ names) more h =
    let both = or_parts (same_bytes x y) (list_any (λ z. same_bytes x z) names) h in
    ap (λ t. cond t (Some k) (place_from (k + 1) x (names ++ more))) both.0 ∙ place_past (k + 1) x names more both.1 ∙ ap (λ (n : ℕ). place_from n x more) (let e : k + 1 + length names ≡ k + suc (length names) = omega arith in e)

-- what differs from each that stands behind it
module _ {X : Type 0} (same : X → X → Bool) (comm : (x y : X) → same x y ≡ same y x) where
  apart : (f : X → Bool) (x : X) (l xs : List X) → not (list_any f (l ++ x ∷ xs)) ≡ true → f x ≡ false
  apart f x [] xs h = none (f x) (list_any f xs) h
    where
      none : (a b : Bool) → not (a || b) ≡ true → a ≡ false
      none false b h = refl
      none true b h = absurd (cc)
  apart f x (y ∷ l) xs h = apart f x l xs (rest (f y) (list_any f (l ++ x ∷ xs)) h)
    where
      rest : (a b : Bool) → not (a || b) ≡ true → not b ≡ true
      rest false b h = h
      rest true b h = absurd (cc)

  pub differs_before : (x : X) (l xs : List X) → all_differ same (l ++ x ∷ xs) ≡ true → list_any (λ y. same x y) l ≡ false
  differs_before x [] xs h = refl
  differs_before x (y ∷ l) xs h =
      let both = and_parts _ _ h in
      ap (λ t. t || list_any (λ z. same x z) l) (comm x y ∙ apart (same y) x l xs both.0) ∙ differs_before x l xs both.1

-- numbers that differ each count once
once_same : (acc xs : List ℕ) → all_differ (λ x y. eqb x y) (acc ++ xs) ≡ true → once_from acc xs ≡ xs
once_same acc [] h = refl
once_same acc (x ∷ xs) h =
    ap (λ t. cond t (once_from acc xs) (x ∷ once_from (acc ++ x ∷ []) xs)) (differs_before (λ x y. eqb x y) nat_eq_equiv.symm x acc xs h)
    ∙ ap (λ l. x ∷ l) (once_same (acc ++ x ∷ []) xs (ap (all_differ (λ x y. eqb x y)) (append_assoc acc (x ∷ []) xs) ∙ h))

-- words that say these numbers
pub listed_back : (says : List ℕ → Option ℕ) (word : ℕ → List ℕ) (l : List ℕ) → 1 ≤ length l → all_of says (map word l) ≡ Some l → all_differ (λ x y. eqb x y) l ≡ true → listed says (map word l) ≡ Some l
listed_back says word [] some all differ = absurd (omega arith)
listed_back says word (x ∷ l) some all differ = ap (λ (o : Option (List ℕ)). option_map once o) all ∙ ap (λ (m : List ℕ). Some m) (once_same [] (x ∷ l) differ)

pub all_of_back : (says : List ℕ → Option ℕ) (word : ℕ → List ℕ) (test : ℕ → Bool) → ((x : ℕ) → test x ≡ true → says (word x) ≡ Some x) → (l : List ℕ) → list_all test l ≡ true → all_of says (map word l) ≡ Some l
all_of_back says word test back [] h = refl
all_of_back says word test back (x ∷ l) h =
    let both = and_parts _ _ h in
    ap (λ (o : Option ℕ). option_and_then (λ (y : ℕ). option_map (λ (ys : List ℕ). y ∷ ys) (all_of says (map word l))) o) (back x both.0)
    ∙ ap (λ (o : Option (List ℕ)). option_map (λ (ys : List ℕ). x ∷ ys) o) (all_of_back says word test back l both.1)

pub words_of : (word : ℕ → List ℕ) (test : ℕ → Bool) → ((x : ℕ) → test x ≡ true → (is_word (word x) && leb 1 (length (word x))) ≡ true) → (l : List ℕ) → list_all test l ≡ true → are_words (map word l) ≡ true
words_of word test ok [] h = refl
words_of word test ok (x ∷ l) h = let both = and_parts _ _ h in and_from (is_word (word x) && leb 1 (length (word x))) (are_words (map word l)) (ok x both.0) (words_of word test ok l both.1)
