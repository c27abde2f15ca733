-- The names of a command differ.
use Rattle.std.proofs.Common.{◌≡◌, ◌≢◌, ℕ, zero, suc, ◌+◌, ◌-◌, ◌*◌, ◌/◌, ◌%◌, ◌<◌, ◌≤◌, List, [], ◌∷◌, length, get_or, Bool, true, false, not, ◌&&◌, refl, sym, ap, ◌∙◌, arith, inl, inr}
use Rattle.std.specs.Prelude.{String, map, nat_lt, nat_le, ◌==◌}
use Rattle.std.proofs.lemmas.Bool.{leb-true, eqb-true}
use Rattle.std.specs.List.{list_any}
use Rattle.std.specs.Str.{bytes_eq}
use Rattle.std.specs.String.{string_bytes}
use Rattle.std.specs.declared.alloc.Global.{Global}
use Rattle.fab_base.specs.Places.{name_at}
use Rattle.fab_base.specs.Counting.{counting}
use Rattle.pcap_file.proofs.lemmas.Numbers.{le_or_lt}
use Rattle.fabric_tool.specs.declared.command.Width.{Width}
use Rattle.fabric_tool.specs.declared.command.Width.TheVariants as widths
use Rattle.fabric_tool.specs.Command.{are_ports, count_of, place_of, input_of, names_from, are_names, has_pairs, are_pairs, port_count, input_at, output_at, run_of}
use Rattle.run_files.specs.Names.{Among}
use Rattle.fabric_tool.proofs.AmongLemmas.{or_false}
use Rattle.run_files.proofs.NameLemmas.{differs, among_counted}

pub and_true : (a b : Bool) → (a && b) ≡ true → (a ≡ true) × (b ≡ true)
and_true true b h = (refl, h)
and_true false b h = absurd (cc)

not_true : (b : Bool) → not b ≡ true → b ≡ false
not_true true h = absurd (cc)
not_true false h = refl

first_differs : (n : List ℕ) (names : List (List ℕ)) → are_names (n ∷ names) ≡ true → (list_any (λ m. bytes_eq n m) names ≡ false) × (are_names names ≡ true)
first_differs n names h =
    let parts = and_true (nat_lt 0 (length n) && not (list_any (λ m. bytes_eq n m) names)) (are_names names) h in
    (not_true _ (and_true (nat_lt 0 (length n)) (not (list_any (λ m. bytes_eq n m) names)) parts.0).1, parts.1)

-- a name that no word is
none_at : (n : List ℕ) (ws : List (String Global)) (j : ℕ) → j < length ws → list_any (λ m. bytes_eq n m) (map (λ w. string_bytes w) ws) ≡ false → n ≢ name_at ws j
none_at n [] j lt h = absurd (omega arith)
none_at n (w ∷ ws) zero lt h = differs n (string_bytes w) (or_false (bytes_eq n (string_bytes w)) _ h).0
none_at n (w ∷ ws) (suc j) lt h = none_at n ws j (omega arith) (or_false (bytes_eq n (string_bytes w)) _ h).1

pub words_differ : (ws : List (String Global)) (i j : ℕ) → are_names (map (λ w. string_bytes w) ws) ≡ true → i < j → j < length ws → name_at ws i ≢ name_at ws j
words_differ [] i j h lt within = absurd (omega arith)
words_differ (w ∷ ws) i zero h lt within = absurd (omega arith)
words_differ (w ∷ ws) zero (suc j) h lt within = none_at (string_bytes w) ws j (omega arith) (first_differs (string_bytes w) (map (λ w. string_bytes w) ws) h).0
words_differ (w ∷ ws) (suc i) (suc j) h lt within = words_differ ws i j (first_differs (string_bytes w) (map (λ w. string_bytes w) ws) h).1 (omega arith) (omega arith)

-- names at different places differ
pub names_differ : (words : List (String Global)) (i j : ℕ) → are_names (names_from 1 words) ≡ true → 1 ≤ i → i < j → j < length words → name_at words i ≢ name_at words j
names_differ [] i j run some lt within = absurd (omega arith)
names_differ (w ∷ ws) zero j run some lt within = absurd (omega arith)
names_differ (w ∷ ws) (suc i) zero run some lt within = absurd (omega arith)
names_differ (w ∷ ws) (suc i) (suc j) run some lt within = words_differ ws i j run (omega arith) (omega arith)

-- names at two places are one name only where the places are one
pub one_name : (words : List (String Global)) (i j : ℕ) → are_names (names_from 1 words) ≡ true → 1 ≤ i → i < length words → 1 ≤ j → j < length words → name_at words i ≡ name_at words j → i ≡ j
one_name words i j run some within some' within' same = elim (le_or_lt i j) [
  | inl le ↦ elim (le_or_lt j i) [ inl ge ↦ omega arith | inr lt ↦ absurd (names_differ words i j run some lt within' same) ]
  | inr gt ↦ absurd (names_differ words j i run some' gt within (sym same))
]

-- the same of pairs
pub one_place : (words : List (String Global)) (i j : ℕ) → are_pairs words ≡ true → 1 ≤ i → i < length words → 1 ≤ j → j < length words → name_at words i ≡ name_at words j → i ≡ j
one_place words i j run = one_name words i j (and_true (has_pairs words) (are_names (names_from 1 words)) run).1

-- ---- numbered names

counted_at : (f : ℕ → List ℕ) (k n q : ℕ) → q < n → get_or (map f (counting k n)) q [] ≡ f (k + q)
counted_at f k zero q lt = absurd (omega arith)
counted_at f k (suc n) zero lt = ap f (let e : k ≡ k + zero = omega arith in e)
counted_at f k (suc n) (suc q) lt = counted_at f (k + 1) n q (omega arith) ∙ ap f (let e : k + 1 + q ≡ k + suc q = omega arith in e)

pub name_counted : (f : ℕ → List ℕ) (n q : ℕ) → q < n → get_or (map f (counting 0 n)) q [] ≡ f q
name_counted f n q lt = counted_at f 0 n q lt ∙ ap f (let e : 0 + q ≡ q = omega arith in e)

-- ---- how many words

-- the words of a command are three and two for each port
pub record Pairs (words : List (String Global)) : Type 0 where
  pub fits : 2 * port_count words + 3 ≡ length words
  pub some : 1 ≤ port_count words
  pub few : port_count words ≤ 64

pairs_of : (n : ℕ) → 5 ≤ n → n ≤ 131 → n % 2 ≡ 1 → (2 * ((n - 3) / 2) + 3 ≡ n) × (1 ≤ (n - 3) / 2) × ((n - 3) / 2 ≤ 64)
pairs_of n least most odd = (omega arith, omega arith, omega arith)

pub pairs : (words : List (String Global)) → are_pairs words ≡ true → Pairs words
pairs words run =
    let n = length words in
    let odd = (and_true (has_pairs words) (are_names (names_from 1 words)) run).0 in
    let both = and_true (nat_le 5 n && nat_le n 131) (n % 2 == 1) odd in
    let ends = and_true (nat_le 5 n) (nat_le n 131) both.0 in
    let all = pairs_of n (leb-true 5 n ends.0) (leb-true n 131 ends.1) (eqb-true (n % 2) 1 both.1) in
    record { fits = all.0; some = all.1; few = all.2 }

-- the same by how many names a port has
pub record Ports (w : Width) (words : List (String Global)) : Type 0 where
  pub fits : place_of w (count_of w words) ≡ length words
  pub some : 1 ≤ count_of w words
  pub few : count_of w words ≤ 64
  pub names : are_names (names_from 1 words) ≡ true

pub ports : (w : Width) (words : List (String Global)) → are_ports w words ≡ true → Ports w words
ports widths.One words are =
    let n = length words in
    let both = and_true (nat_le 4 n && nat_le n 67) (are_names (names_from 1 words)) are in
    let ends = and_true (nat_le 4 n) (nat_le n 67) both.0 in
    let least = leb-true 4 n ends.0 in
    let most = leb-true n 67 ends.1 in
    record { fits = omega arith; some = omega arith; few = omega arith; names = both.1 }
ports widths.Two words are =
    let p = pairs words are in
    record { fits = p.fits; some = p.some; few = p.few; names = (and_true (has_pairs words) (are_names (names_from 1 words)) are).1 }

pub places_ascend : (w : Width) (i j : ℕ) → i < j → (1 ≤ place_of w i) × (place_of w i < place_of w j)
places_ascend widths.One i j lt = (omega arith, omega arith)
places_ascend widths.Two i j lt = (omega arith, omega arith)

-- an input is none of those before it
pub new_input : (w : Width) (words : List (String Global)) → are_ports w words ≡ true → (q : ℕ) → q < count_of w words → Among (map (input_of w words) (counting 0 q)) (input_of w words q) → ⊥
new_input w words are q lt among =
    let at = among_counted (input_of w words) 0 q (input_of w words q) among in
    let p = ports w words are in
    let few = at.2 in
    let below = places_ascend w at.0 q (omega arith) in
    let within = places_ascend w q (count_of w words) lt in
    let place = one_name words (place_of w q) (place_of w at.0) p.names within.0 (omega (arith, within.1, p.fits)) below.0 (omega (arith, below.1, within.1, p.fits)) at.3 in
    absurd (omega (arith, place, below.1))

-- ---- the names of `run`

module _ (words : List (String Global)) (run : are_pairs words ≡ true) where
  fits : 2 * port_count words + 3 ≡ length words
  fits = (pairs words run).fits

  -- an input is no output
  pub inputs_apart : (m : List ℕ) → Among (run_of words).ins m → Among ((run_of words).journal ∷ (run_of words).outs) m → ⊥
  inputs_apart m input (inl is) =
      let at = among_counted (input_at words) 0 (port_count words) m input in
      let few = at.2 in
      let place = one_place words (2 * at.0 + 3) 2 run (omega arith) (omega (arith, fits)) (omega arith) (omega (arith, fits)) (sym at.3 ∙ is) in
      absurd (omega arith)
  inputs_apart m input (inr output) =
      let at = among_counted (input_at words) 0 (port_count words) m input in
      let to = among_counted (output_at words) 0 (port_count words) m output in
      let few = at.2 in
      let few' = to.2 in
      let place = one_place words (2 * at.0 + 3) (2 * to.0 + 4) run (omega arith) (omega (arith, fits)) (omega arith) (omega (arith, fits)) (sym at.3 ∙ to.3) in
      absurd (omega arith)

  -- an output is neither the journal nor one of those before it
  pub new_output : (q : ℕ) → q < port_count words → Among ((run_of words).journal ∷ map (output_at words) (counting 0 q)) (output_at words q) → ⊥
  new_output q lt (inl is) =
      let place = one_place words (2 * q + 4) 2 run (omega arith) (omega (arith, fits)) (omega arith) (omega (arith, fits)) is in
      absurd (omega arith)
  new_output q lt (inr among) =
      let at = among_counted (output_at words) 0 q (output_at words q) among in
      let few = at.2 in
      let place = one_place words (2 * q + 4) (2 * at.0 + 4) run (omega arith) (omega (arith, fits)) (omega arith) (omega (arith, fits)) at.3 in
      absurd (omega arith)
