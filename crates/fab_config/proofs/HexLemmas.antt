-- Pairs of hexadecimal digits.
use Rattle.std.proofs.Common.{◌≡◌, ℕ, suc, ◌+◌, ◌-◌, ◌*◌, ◌%◌, ◌<◌, ◌≤◌, List, [], ◌∷◌, ◌++◌, length, take, drop, set, get_or, Bool, true, false, cond, eqb, ltb, ◌&&◌, Option, Some, None, Result, Ok, Err, refl, sym, ◌∙◌, ap, subst, arith, w64}
use Rattle.std.specs.Option.{option_map, option_and_then}
use Rattle.std.specs.Result.{IsErr, MatchResult}
use Rattle.std.proofs.lemmas.List.{drop_more, take_more_set, append_assoc}
use Rattle.std.proofs.lemmas.Bool.{eqb-true, eq-eqb}
use Rattle.hex.specs.Hex.{decode_sized, decode_pairs, digit_or_error, hex_digit_value, ◌>>=◌}
use Rattle.hex.specs.declared.error.FromHexError.{FromHexError}
use Rattle.std.specs.Int.{from_be_bytes}
use Rattle.std.specs.List.{list_any}
use Rattle.fab_base.specs.Layout.{big_endian}
use Rattle.fab_config.specs.Settings.{is_station}
use Rattle.fab_config.specs.Values.{octet, with_octet, octets, octets_of, name}

-- ---- one pair

two : (l : List ℕ) (i : ℕ) → i + 2 ≤ length l → drop i l ≡ get_or l i 0 ∷ get_or l (i + 1) 0 ∷ drop (i + 2) l
two l i le = drop_more l i 0 (omega arith) ∙ ap (λ r. get_or l i 0 ∷ r) (drop_more l (i + 1) 0 (omega arith)) ∙ ap (λ (n : ℕ). get_or l i 0 ∷ get_or l (i + 1) 0 ∷ drop n l) (let e : i + 1 + 1 ≡ i + 2 = omega arith in e)

-- what decoding two digits gives
abbrev pub IsPair : Option ℕ → Result (List ℕ) FromHexError → Type 0
IsPair None r = IsErr r
IsPair (Some b) r = r ≡ Ok (b ∷ [])

pair_cases : (h l : ℕ) (o p : Option ℕ)
    → IsPair (option_and_then (λ (x : ℕ). option_map (λ (y : ℕ). x * 16 + y) p) o) ((digit_or_error h 0 o >>= λ x. digit_or_error l 1 p >>= λ y. Ok (x * 16 + y)) >>= λ b. Ok (b ∷ []))
pair_cases h l None p = refl
pair_cases h l (Some x) None = refl
pair_cases h l (Some x) (Some y) = refl

pub pair_is : (h l : ℕ) → IsPair (octet h l) (decode_sized (h ∷ l ∷ []) 1)
unfolding decode_pairs
pair_is h l = pair_cases h l (hex_digit_value h) (hex_digit_value l)

module _ (w : List ℕ) (at : ℕ) (le : at + 2 ≤ length w) (r : Result Unit FromHexError) (out : List ℕ) where
  pair_cut : take (at + 2 - at) (drop at w) ≡ get_or w at 0 ∷ get_or w (at + 1) 0 ∷ []
  pair_cut = ap (λ (n : ℕ). take n (drop at w)) (let e : at + 2 - at ≡ 2 = omega arith in e) ∙ ap (take 2) (two w at le)

  ok_by : (o : Option ℕ) (d : Result (List ℕ) FromHexError) → IsPair o d → MatchResult d (λ bytes. (r ≡ Ok tt) × (out ≡ bytes)) (λ e. r ≡ Err e) → r ≡ Ok tt → Some (get_or out 0 0) ≡ o
  ok_by None (Ok bytes) p h e = absurd (cc)
  ok_by None (Err x) p h e = absurd (cc)
  ok_by (Some b) (Ok bytes) p h e = let is : bytes ≡ b ∷ [] = cc in ap (λ m. Some (get_or m 0 0)) (h.1 ∙ is)
  ok_by (Some b) (Err x) p h e = absurd (cc)

  err_by : (o : Option ℕ) (d : Result (List ℕ) FromHexError) (x : FromHexError) → IsPair o d → MatchResult d (λ bytes. (r ≡ Ok tt) × (out ≡ bytes)) (λ e. r ≡ Err e) → r ≡ Err x → None ≡ o
  err_by None d x p h e = refl
  err_by (Some b) (Ok bytes) x p h e = let f : r ≡ Ok tt = h.0 in absurd (cc)
  err_by (Some b) (Err y) x p h e = absurd (cc)

  module _ (h : MatchResult (decode_sized (take (at + 2 - at) (drop at w)) 1) (λ bytes. (r ≡ Ok tt) × (out ≡ bytes)) (λ e. r ≡ Err e)) where
    at_pair : MatchResult (decode_sized (get_or w at 0 ∷ get_or w (at + 1) 0 ∷ []) 1) (λ bytes. (r ≡ Ok tt) × (out ≡ bytes)) (λ e. r ≡ Err e)
    at_pair = subst (λ (m : List ℕ). MatchResult (decode_sized m 1) (λ bytes. (r ≡ Ok tt) × (out ≡ bytes)) (λ e. r ≡ Err e)) pair_cut h

    pub octet_ok : r ≡ Ok tt → Some (get_or out 0 0) ≡ octet (get_or w at 0) (get_or w (at + 1) 0)
    octet_ok e = ok_by (octet (get_or w at 0) (get_or w (at + 1) 0)) (decode_sized (get_or w at 0 ∷ get_or w (at + 1) 0 ∷ []) 1) (pair_is (get_or w at 0) (get_or w (at + 1) 0)) at_pair e

    pub octet_err : (x : FromHexError) → r ≡ Err x → None ≡ octet (get_or w at 0) (get_or w (at + 1) 0)
    octet_err x e = err_by (octet (get_or w at 0) (get_or w (at + 1) 0)) (decode_sized (get_or w at 0 ∷ get_or w (at + 1) 0 ∷ []) 1) x (pair_is (get_or w at 0) (get_or w (at + 1) 0)) at_pair e

-- ---- pairs with colons between them

-- what is behind a pair
abbrev pub behind : List ℕ → Option (List ℕ)
behind [] = Some []
behind (colon ∷ rest) = cond (eqb colon 58) (octets rest) None

abbrev pub glued : List ℕ → Option (List ℕ) → Option (List ℕ)
glued done more = option_map (λ l. done ++ l) more

pub octets_step : (h l : ℕ) (r : List ℕ) → octets (h ∷ l ∷ r) ≡ with_octet (octet h l) (behind r)
octets_step h l [] = refl
octets_step h l (colon ∷ r) = by (eqb colon 58) (octet h l)
  where
    by : (t : Bool) (o : Option ℕ) → cond t (with_octet o (octets r)) None ≡ with_octet o (cond t (octets r) None)
    by true o = refl
    by false None = refl
    by false (Some b) = refl

glued_more : (done : List ℕ) (b : ℕ) (more : Option (List ℕ)) → glued done (with_octet (Some b) more) ≡ glued (done ++ b ∷ []) more
glued_more done b None = refl
glued_more done b (Some l) = ap (λ m. Some m) (sym (append_assoc done (b ∷ []) l))

-- the first pair
pub first_pair : (l : List ℕ) (o : Option ℕ) → 2 ≤ length l → o ≡ octet (get_or l 0 0) (get_or l 1 0) → octets l ≡ with_octet o (behind (drop 2 l))
first_pair l o le e = ap octets (two l 0 le) ∙ octets_step (get_or l 0 0) (get_or l 1 0) (drop 2 l) ∙ ap (λ p. with_octet p (behind (drop 2 l))) (sym e)

-- a further pair
behind_colon : (l : List ℕ) (i : ℕ) → i < length l → get_or l i 0 ≡ 58 → behind (drop i l) ≡ octets (drop (i + 1) l)
behind_colon l i lt e = ap behind (drop_more l i 0 lt) ∙ ap (λ (n : ℕ). cond (eqb n 58) (octets (drop (i + 1) l)) None) e

pub next_pair : (l : List ℕ) (i j k : ℕ) (o : Option ℕ) → i + 1 ≡ j → j + 2 ≡ k → k ≤ length l → get_or l i 0 ≡ 58 → o ≡ octet (get_or l j 0) (get_or l (j + 1) 0) → behind (drop i l) ≡ with_octet o (behind (drop k l))
next_pair l i j k o on after le colon e =
    behind_colon l i (omega arith) colon ∙ ap (λ (n : ℕ). octets (drop n l)) on ∙ ap octets (two l j (omega arith)) ∙ octets_step (get_or l j 0) (get_or l (j + 1) 0) (drop (j + 2) l)
    ∙ ap (λ p. with_octet p (behind (drop (j + 2) l))) (sym e) ∙ ap (λ (n : ℕ). with_octet o (behind (drop n l))) after

-- the bytes so far, and one more
pub first_byte : (l bytes : List ℕ) (b : ℕ) → 0 < length bytes → 2 ≤ length l → Some b ≡ octet (get_or l 0 0) (get_or l 1 0) → octets l ≡ glued (take 1 (set bytes 0 b)) (behind (drop 2 l))
first_byte l bytes b some le e = first_pair l (Some b) le e ∙ ap (λ done. glued done (behind (drop 2 l))) (sym (take_more_set bytes 0 b some))

pub next_byte : (l bytes : List ℕ) (b n i j k : ℕ) → n < length bytes → i + 1 ≡ j → j + 2 ≡ k → k ≤ length l → get_or l i 0 ≡ 58 → Some b ≡ octet (get_or l j 0) (get_or l (j + 1) 0)
    → octets l ≡ glued (take n bytes) (behind (drop i l)) → octets l ≡ glued (take (n + 1) (set bytes n b)) (behind (drop k l))
next_byte l bytes b n i j k lt on after le colon e was =
    was ∙ ap (glued (take n bytes)) (next_pair l i j k (Some b) on after le colon e) ∙ glued_more (take n bytes) b (behind (drop k l))
    ∙ ap (λ done. glued done (behind (drop k l))) (sym (take_more_set bytes n b lt))

-- ---- how long they are

octets_length : (w l : List ℕ) → octets w ≡ Some l → length w + 1 ≡ 3 * length l
octets_length [] l e = absurd (cc)
octets_length (h ∷ []) l e = absurd (cc)
octets_length (h ∷ k ∷ []) l e = by (octet h k) e
  where
    by : (o : Option ℕ) → with_octet o (Some []) ≡ Some l → 3 ≡ 3 * length l
    by None f = absurd (cc)
    by (Some b) f = let is : b ∷ [] ≡ l = cc in ap (λ m. 3 * length m) is
octets_length (h ∷ k ∷ c ∷ r) l e = long r (octets_length r) (eqb c 58) (octet h k) (octets r) l refl e
  where
    long : (r : List ℕ) → ((m : List ℕ) → octets r ≡ Some m → length r + 1 ≡ 3 * length m) → (t : Bool) (o : Option ℕ) (p : Option (List ℕ)) (l : List ℕ)
        → octets r ≡ p → cond t (with_octet o p) None ≡ Some l → suc (suc (suc (length r))) + 1 ≡ 3 * length l
    long r ih false o p l f g = absurd (cc)
    long r ih true None p l f g = absurd (cc)
    long r ih true (Some b) None l f g = absurd (cc)
    long r ih true (Some b) (Some m) l f g = let is : b ∷ m ≡ l = cc in let h = ih m f in let s : suc (length m) ≡ length l = ap length is in omega (arith, h, s)

pub other_length : (w : List ℕ) (count : ℕ) → (length w + 1 ≡ 3 * count → ⊥) → octets_of count w ≡ None
other_length w count ne = by (octets w) refl
  where
    test : (l : List ℕ) (t : Bool) → octets w ≡ Some l → eqb (length l) count ≡ t → ◌≡◌ {A = Option (List ℕ)} (cond t (Some l) None) None
    test l true e f = absurd (ne (octets_length w l e ∙ ap (λ (n : ℕ). 3 * n) (eqb-true (length l) count f)))
    test l false e f = refl

    by : (o : Option (List ℕ)) → octets w ≡ o → option_and_then (λ (l : List ℕ). cond (eqb (length l) count) (Some l) None) o ≡ None
    by None e = refl
    by (Some l) e = test l (eqb (length l) count) e refl

pub some_of : (w l : List ℕ) (count : ℕ) → octets w ≡ Some l → length l ≡ count → octets_of count w ≡ Some l
some_of w l count e is = ap (λ (o : Option (List ℕ)). option_and_then (λ (l : List ℕ). cond (eqb (length l) count) (Some l) None) o) e ∙ ap (λ t. cond t (Some l) None) (eq-eqb (length l) count is)

-- ---- the numbers that bytes spell

pub eight_bytes : (l : List ℕ) → length l ≡ 8 → from_be_bytes w64 l ≡ big_endian l
eight_bytes (a ∷ b ∷ c ∷ d ∷ e ∷ f ∷ g ∷ h ∷ []) is = omega arith
eight_bytes _ is = absurd (omega arith)

pub name_is : (w l : List ℕ) → length l ≡ 8 → octets_of 8 w ≡ Some l → Some (from_be_bytes w64 l) ≡ name w
name_is w l is e = ap (λ (n : ℕ). Some n) (eight_bytes l is) ∙ ap (λ (o : Option (List ℕ)). option_map big_endian o) (sym e)

-- ---- stations

pub station_is : (l : List ℕ) (r : Bool) → length l ≡ 6 → get_or l 0 0 % 2 ≡ 0 → r ≡ list_any (λ b. ltb 0 b) l → r ≡ is_station l
station_is l r six even e = e ∙ by (eqb (length l) 6) (eqb (get_or l 0 0 % 2) 0) (ap (λ (n : ℕ). eqb n 6) six) (ap (λ (n : ℕ). eqb n 0) even)
  where
    by : (s t : Bool) → s ≡ true → t ≡ true → list_any (λ b. ltb 0 b) l ≡ (s && t && list_any (λ b. ltb 0 b) l)
    by s t f g = sym (ap (λ u. u && t && list_any (λ b. ltb 0 b) l) f ∙ ap (λ u. u && list_any (λ b. ltb 0 b) l) g)
