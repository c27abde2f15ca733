-- What the lines of a seam say, read back.
use Rattle.std.proofs.Common.{◌≡◌, ℕ, zero, suc, ◌+◌, ◌*◌, ◌%◌, ◌<◌, ◌≤◌, ◌^◌, Bool, true, false, List, [], ◌∷◌, ◌++◌, length, drop, get_or, length-append, Option, Some, None, IfSome, refl, sym, ap, subst, ◌∙◌, append_assoc, arith}
use Rattle.std.specs.Prelude.{flat_map, if◌then◌else◌}
use Rattle.std.specs.Int.{byte_at, from_be_bytes, w32}
use Rattle.std.specs.List.{AllByRecursion}
use Rattle.std.specs.Str.{bytes_eq}
use Rattle.std.proofs.Math.Seq.{drop-length}
use Rattle.std.proofs.lemmas.List.Concat.{flat_map-append}
use Rattle.std.proofs.lemmas.Slice.Eq.{bytes_eq-Decides}
use Rattle.fab_base.specs.Layout.{big_endian, spelled}
use Rattle.fab_base.specs.Texts.{hex, hex_bytes}
use Rattle.fab_base.proofs.LayoutLemmas.{big_endian-spelled, length-spelled}
use Rattle.fab_base.proofs.TextLemmas.{hex-spelled}
use Rattle.ct_messages.specs.Server.{NO_FEATURES}
use Rattle.fab_policy.specs.Private.LineWords.{IsWord}
use Rattle.fab_policy.specs.State.{LivePort}
use Rattle.fab_policy.proofs.WordLemmas.{AreWords}
use Rattle.fab_pieces.specs.Seam.{AreBelow, IsLong, login_row, row_text}
use Rattle.fab_pieces.proofs.SeamLemmas.{AreRows, IsRow, login_inside}
use Rattle.fab_state.specs.Readable.{IsReadPort}
use Rattle.fab_state.specs.Words.{AreLines, IsLine}
use Rattle.fab_state.proofs.ReadLemmas.{spelled_below}

-- ---- lines

all_of : (ws : List (List ℕ)) → AreWords ws → AllByRecursion IsWord ws
all_of [] h = tt
all_of (w ∷ ws) h = (h.0, all_of ws h.1)

pub line_of : (row : List (List ℕ)) → IsRow row → IsLine row
line_of [] h = h
line_of (w ∷ ws) h = (h.0, all_of ws h.1)

pub lines_of : (rows : List (List (List ℕ))) → AreRows rows → AreLines rows
lines_of [] h = tt
lines_of (row ∷ rows) h = (line_of row h.0, lines_of rows h.1)

pub login_is_line : (p : LivePort) → IsReadPort p → IsLine (login_row p)
login_is_line p h = line_of (login_row p) (login_inside p h.ranged)

pub lines_step : (rows : List (List (List ℕ))) (k : ℕ) (rest next more : List ℕ) → AreLines rows → k < length rows → rest ≡ flat_map row_text (drop k rows) ++ more →
    ((ws : List (List ℕ)) (m : List ℕ) → IsLine ws → rest ≡ row_text ws ++ m → next ≡ m) → next ≡ flat_map row_text (drop (suc k) rows) ++ more
lines_step [] k rest next more h low e cut = absurd (omega arith)
lines_step (row ∷ rows) zero rest next more h low e cut = cut row (flat_map row_text rows ++ more) h.0 (e ∙ append_assoc (row_text row) (flat_map row_text rows) more)
lines_step (row ∷ rows) (suc k) rest next more h low e cut = lines_step rows k rest next more h.1 (omega arith) e cut

pub lines_end : (rows : List (List (List ℕ))) (k : ℕ) (rest more : List ℕ) → length rows ≡ k → rest ≡ flat_map row_text (drop k rows) ++ more → rest ≡ more
lines_end rows k rest more all e = e ∙ ap (λ (n : ℕ). flat_map row_text (drop n rows) ++ more) (sym all) ∙ ap (λ rs. flat_map row_text rs ++ more) (drop-length rows)

-- ---- numbers

pub size_long : (o : Option ℕ) → IfSome o (λ n. n < 2 ^ 16) → IfSome o IsLong
size_long None h = tt
size_long (Some n) h = omega (arith, h)

pub size_is : (o : Option ℕ) (n : ℕ) → IfSome o (λ m. m < 2 ^ 16) → Some n ≡ o → Some (n % 65536) ≡ o
size_is None n h e = absurd (cc)
size_is (Some m) n h e = let same : n ≡ m = cc in ap Some (let small : n % 65536 ≡ m = omega (arith, h, same) in small)

pub small_is : (m n : ℕ) → n < 256 → m ≡ n → m % 256 ≡ n
small_is m n small e = omega arith

-- ---- types

four_bytes : (a b c d : ℕ) → from_be_bytes w32 (a ∷ b ∷ c ∷ d ∷ []) ≡ big_endian (a ∷ b ∷ c ∷ d ∷ [])
four_bytes a b c d = omega arith

long_is : (x : ℕ) → x < 2 ^ 32 → from_be_bytes w32 (spelled 4 x) ≡ x
long_is x small = four_bytes (byte_at 3 x) (byte_at 2 x) (byte_at 1 x) (byte_at 0 x) ∙ big_endian-spelled 4 x small

-- the number of the four bytes at a place
abbrev pub long : List ℕ → ℕ → ℕ
long bs at = from_be_bytes w32 (get_or bs at 0 ∷ get_or bs (at + 1) 0 ∷ get_or bs (at + 2) 0 ∷ get_or bs (at + 3) 0 ∷ [])

pub eight_longs : (l bs : List ℕ) → length l ≡ 8 → AreBelow (2 ^ 32) l → bs ≡ flat_map (spelled 4) l →
    long bs 0 ∷ long bs 4 ∷ long bs 8 ∷ long bs 12 ∷ long bs 16 ∷ long bs 20 ∷ long bs 24 ∷ long bs 28 ∷ [] ≡ l
eight_longs (a ∷ b ∷ c ∷ d ∷ e ∷ f ∷ g ∷ h ∷ []) bs eight below is =
    ap (λ m. long m 0 ∷ long m 4 ∷ long m 8 ∷ long m 12 ∷ long m 16 ∷ long m 20 ∷ long m 24 ∷ long m 28 ∷ []) is
    ∙ all_eight (long_is a below.0) (long_is b below.1.0) (long_is c below.1.1.0) (long_is d below.1.1.1.0) (long_is e below.1.1.1.1.0) (long_is f below.1.1.1.1.1.0) (long_is g below.1.1.1.1.1.1.0)
    (long_is h below.1.1.1.1.1.1.1.0)
  where
    all_eight : {a' b' c' d' e' f' g' h' : ℕ} → a' ≡ a → b' ≡ b → c' ≡ c → d' ≡ d → e' ≡ e → f' ≡ f → g' ≡ g → h' ≡ h → a' ∷ b' ∷ c' ∷ d' ∷ e' ∷ f' ∷ g' ∷ h' ∷ [] ≡ a ∷ b ∷ c ∷ d ∷ e ∷ f ∷ g ∷ h ∷ []
    all_eight e1 e2 e3 e4 e5 e6 e7 e8 = cc
eight_longs _ bs eight below is = absurd (omega arith)

pub types_digits : (l : List ℕ) → flat_map (hex 8) l ≡ hex_bytes (flat_map (spelled 4) l)
types_digits [] = refl
types_digits (x ∷ l) =
    ap (λ m. m ++ flat_map (hex 8) l) (hex-spelled 4 x) ∙ ap (λ m. hex_bytes (spelled 4 x) ++ m) (types_digits l)
    ∙ sym (flat_map-append (hex 2) (spelled 4 x) (flat_map (spelled 4) l))

below_both : (l m : List ℕ) → AreBelow 256 l → AreBelow 256 m → AreBelow 256 (l ++ m)
below_both [] m h g = g
below_both (b ∷ l) m h g = (h.0, below_both l m h.1 g)

pub types_below : (l : List ℕ) → AreBelow 256 (flat_map (spelled 4) l)
types_below [] = tt
types_below (x ∷ l) = below_both (spelled 4 x) (flat_map (spelled 4) l) (spelled_below 4 x) (types_below l)

pub types_length : (l : List ℕ) → length (flat_map (spelled 4) l) ≡ 4 * length l
types_length [] = refl
types_length (x ∷ l) = length-append (spelled 4 x) (flat_map (spelled 4) l) ∙ (let own = length-spelled 4 x in let more = types_length l in omega (arith, own, more))

-- ---- features

-- what is spelled of features
abbrev pub spelled_features : List ℕ → List ℕ
spelled_features fs = if bytes_eq fs NO_FEATURES then [] else fs

pub features_below : (fs : List ℕ) → AreBelow 256 fs → AreBelow 256 (spelled_features fs)
features_below fs h = by (bytes_eq fs NO_FEATURES)
  where
    by : (b : Bool) → AreBelow 256 (if b then [] else fs)
    by true = tt
    by false = h

pub features_none : (fs bytes : List ℕ) → bytes ≡ spelled_features fs → length bytes ≡ 0 → length fs ≡ 256 → NO_FEATURES ≡ fs
features_none fs bytes e none size = by (bytes_eq fs NO_FEATURES) refl e
  where
    by : (b : Bool) → bytes_eq fs NO_FEATURES ≡ b → bytes ≡ (if b then [] else fs) → NO_FEATURES ≡ fs
    by true i e = sym ((bytes_eq-Decides fs NO_FEATURES).0 i)
    by false i e = absurd (let same = ap length e in omega (arith, same, none, size))

pub features_some : (fs bytes : List ℕ) → bytes ≡ spelled_features fs → (length bytes ≡ 0 → ⊥) → bytes ≡ fs
features_some fs bytes e some = by (bytes_eq fs NO_FEATURES) e
  where
    by : (b : Bool) → bytes ≡ (if b then [] else fs) → bytes ≡ fs
    by true e = absurd (some (ap length e))
    by false e = e
