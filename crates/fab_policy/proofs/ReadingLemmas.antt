-- Reading the words of a line.
use Rattle.std.proofs.Common.{◌≡◌, ℕ, ◌+◌, ◌<◌, ◌≤◌, ◌^◌, true, false, List, [], ◌∷◌, ◌++◌, map, Option, Some, None, Result, Ok, Err, IfOk, IfErr, refl, sym, ◌∙◌, ap, subst, append_assoc, codes, decimal, arith}
use Rattle.std.proofs.lemmas.List.Elements.{All-nil, All-cons, All-head, All-tail}
use Rattle.std.proofs.lemmas.List.{append-nil}
use Rattle.fab_policy.specs.Ranged.{AscendFrom, IsAddress, IsRangedVerdict}
use Rattle.fab_policy.specs.Spelling.{IsRangedLine, Spells}
use Rattle.fab_policy.specs.Private.LineWords.{IsCut, IsFrameOf, IsNext, IsSpelledAfter, IsTickOf, IsWord, rest_of, verdict_words}
use Rattle.fab_policy.proofs.SpellingLemmas.{line_words}
use Rattle.fab_policy.proofs.WordLemmas.{text_of}
use Rattle.fab_policy.specs.Text.{SPACE, LINE_FEED, then_word, address_word}
use Rattle.fab_policy.specs.declared.line.Format.{Format}
use Rattle.fab_policy.specs.declared.line.Format.TheVariants.{One, Two}
use Rattle.fab_policy.specs.declared.line.Line.{Line}
use Rattle.fab_policy.specs.declared.line.Line.TheVariants.{Tick, Frame}
use Rattle.fab_policy.specs.declared.reading.LineError.{LineError}
use Rattle.fab_policy.specs.declared.reading.LineError.TheVariants.{Fault}
use Rattle.fab_policy.specs.declared.verdict.Verdict.{Verdict}
use Rattle.fab_policy.proofs.ReadLemmas.{other_number}
use Rattle.fab_policy.proofs.SpellingLemmas.{is_tick, line_is_words, number_no_tick}
use Rattle.fab_policy.proofs.WordLemmas.{cut_once, rest_ends, decimal_inside, hex_inside, hex_after, hex_after-hex}

-- the next word, where these words follow
next_is : (rest word behind x : List ℕ) (xs : List (List ℕ)) → IsNext rest word behind → IsWord x → rest ≡ rest_of (x ∷ xs) → (x ≡ word) × (behind ≡ rest_of xs)
next_is rest word behind x xs next inside is =
    let both : then_word (x ++ rest_of xs) ≡ then_word (word ++ behind) = sym is ∙ next.parts in
    let tails : x ++ rest_of xs ≡ word ++ behind = cc in
    let cut = cut_once x word (rest_of xs) behind inside next.inside (rest_ends xs) next.ends tails in
    (cut.0, sym cut.1)

-- ---- frames

pub no_index : (word rest index behind : List ℕ) (clock : Option ℕ) → IsNext rest index behind → ((n : ℕ) → (n < 2 ^ 64) × (index ≡ decimal n) → ⊥) → (l : Line) → IsFrameOf word rest clock l → ⊥
no_index word rest index behind clock next none (Tick m ended) frame = frame
no_index word rest index behind clock next none (Frame port i v at) frame = none i (frame.2, sym (next_is rest index behind (decimal i) (verdict_words v) next (decimal_inside i frame.2) frame.5).0)

pub no_verdict : (word rest index behind : List ℕ) (clock : Option ℕ) → IsNext rest index behind → ((v : Verdict) → IsRangedVerdict v × IsSpelledAfter [] behind v → ⊥) → (l : Line) → IsFrameOf word rest clock l → ⊥
no_verdict word rest index behind clock next none (Tick m ended) frame = frame
no_verdict word rest index behind clock next none (Frame port i v at) frame =
    none v (frame.3, record { more = verdict_words v; words = refl; behind = (next_is rest index behind (decimal i) (verdict_words v) next (decimal_inside i frame.2) frame.5).1 })

-- ---- addresses

pub other_address : (w : List ℕ) (a b : ℕ) → a < 2 ^ 24 → w ≡ address_word a → b < 2 ^ 24 → w ≡ address_word b → b ≡ a
other_address w a b a_small a_is b_small b_is = sym (hex_after-hex 6 b b_small) ∙ ap (hex_after 0) (sym b_is ∙ a_is) ∙ hex_after-hex 6 a a_small

-- an address below the least one
pub no_address_below : (w : List ℕ) (a least : ℕ) → (a < 2 ^ 24) × (w ≡ address_word a) → a < least → (b : ℕ) → (least ≤ b) × (b < 2 ^ 24) × (w ≡ address_word b) → ⊥
no_address_below w a least is below b other = let same = other_address w a b is.0 is.1 other.1 other.2 in omega (arith, same, below, other.0)

-- These addresses were read, and the others stand behind, from a least one on.
pub record AreRead (text ended rest : List ℕ) (least : ℕ) : Type 0 where
  pub forth : (m : List ℕ) → AscendFrom least m → rest ≡ rest_of (map address_word m) → AscendFrom 0 (ended ++ m) × (text ≡ rest_of (map address_word (ended ++ m)))
  pub back : (l : List ℕ) → AscendFrom 0 l → text ≡ rest_of (map address_word l) → (m : List ℕ) × (l ≡ ended ++ m) × AscendFrom least m × (rest ≡ rest_of (map address_word m))

pub none_read : (text : List ℕ) → AreRead text [] text 0
none_read text = record { forth = λ m ascend is. (ascend, is); back = λ l ascend is. (l, refl, ascend, is) }

forth_more : (text ended rest word behind : List ℕ) (least a : ℕ) → AreRead text ended rest least → IsNext rest word behind → (least ≤ a) × (a < 2 ^ 24) × (word ≡ address_word a) →
    (m : List ℕ) → AscendFrom (a + 1) m → behind ≡ rest_of (map address_word m) → AscendFrom 0 ((ended ++ a ∷ []) ++ m) × (text ≡ rest_of (map address_word ((ended ++ a ∷ []) ++ m)))
forth_more text ended rest word behind least a read next address m ascend is =
    let P : List ℕ → Type 0 = λ l. AscendFrom 0 l × (text ≡ rest_of (map address_word l)) in
    subst P (sym (append_assoc ended (a ∷ []) m))
    (read.forth (a ∷ m) ((address.0, ascend.0), All-cons IsAddress a m address.1 ascend.1) (next.parts ∙ ap (λ w. then_word (w ++ behind)) address.2 ∙ ap (λ t. then_word (address_word a ++ t)) is))

back_more : (ended rest word behind : List ℕ) (least a : ℕ) (l m : List ℕ) → IsNext rest word behind → (least ≤ a) × (a < 2 ^ 24) × (word ≡ address_word a) → l ≡ ended ++ m → AscendFrom least m → rest ≡ rest_of (map address_word m) →
    (n : List ℕ) × (l ≡ (ended ++ a ∷ []) ++ n) × AscendFrom (a + 1) n × (behind ≡ rest_of (map address_word n))
back_more ended rest word behind least a l [] next address same ascend is = absurd (let both = sym is ∙ next.parts in let differ : LINE_FEED ≡ SPACE = cc in cc)
back_more ended rest word behind least a l (b ∷ n) next address same ascend is =
    let cut = next_is rest word behind (address_word b) (map address_word n) next (hex_inside 6 b) is in
    let twin : b ≡ a = other_address word a b address.1 address.2 (All-head IsAddress b n ascend.1) (sym cut.0) in
    let P : ℕ → Type 0 = λ k. AscendFrom (k + 1) n in
    (n, same ∙ ap (λ (k : ℕ). ended ++ k ∷ n) twin ∙ sym (append_assoc ended (a ∷ []) n), subst P twin (ascend.0.1, All-tail IsAddress b n ascend.1), cut.1)

one_read : (text ended rest word behind : List ℕ) (least a : ℕ) → AreRead text ended rest least → IsNext rest word behind → (least ≤ a) × (a < 2 ^ 24) × (word ≡ address_word a) → AreRead text (ended ++ a ∷ []) behind (a + 1)
one_read text ended rest word behind least a read next address = record {
  forth = forth_more text ended rest word behind least a read next address;
  back = λ l ascend is. (let before = read.back l ascend is in back_more ended rest word behind least a l before.0 next address before.1 before.2 before.3);
}

-- the same, as the list and the least address are after a push
pub push_read : (text ended pushed rest word behind : List ℕ) (least a value : ℕ) → AreRead text ended rest least → IsNext rest word behind → (least ≤ a) × (a < 2 ^ 24) × (word ≡ address_word a) → pushed ≡ ended ++ a ∷ [] → value ≡ a →
    AreRead text pushed behind (value + 1)
push_read text ended pushed rest word behind least a value read next address list same =
    let P : List ℕ → Type 0 = λ l. AreRead text l behind (value + 1) in
    let Q : ℕ → Type 0 = λ n. AreRead text (ended ++ a ∷ []) behind (n + 1) in
    subst P (sym list) (subst Q (sym same) (one_read text ended rest word behind least a read next address))

-- the line feed comes
pub all_read : (text ended rest : List ℕ) (least : ℕ) → AreRead text ended rest least → rest ≡ LINE_FEED ∷ [] → AscendFrom 0 ended × (text ≡ rest_of (map address_word ended))
all_read text ended rest least read is = let P : List ℕ → Type 0 = λ l. AscendFrom 0 l × (text ≡ rest_of (map address_word l)) in subst P (append-nil ended) (read.forth [] (tt, All-nil IsAddress) is)

no_word_there : (rest : List ℕ) (m : List ℕ) → ((more : List ℕ) → rest ≡ SPACE ∷ more → ⊥) → (rest ≡ LINE_FEED ∷ [] → ⊥) → rest ≡ rest_of (map address_word m) → ⊥
no_word_there rest [] none end is = end is
no_word_there rest (a ∷ m) none end is = none (address_word a ++ rest_of (map address_word m)) is

-- neither a word nor the line feed comes
pub none_left : (text ended rest : List ℕ) (least : ℕ) → AreRead text ended rest least → ((more : List ℕ) → rest ≡ SPACE ∷ more → ⊥) → (rest ≡ LINE_FEED ∷ [] → ⊥) → (l : List ℕ) → AscendFrom 0 l → text ≡ rest_of (map address_word l) → ⊥
none_left text ended rest least read none end l ascend is = let before = read.back l ascend is in no_word_there rest before.0 none end before.3

no_address_there : (rest word behind : List ℕ) (least : ℕ) (m : List ℕ) → IsNext rest word behind → ((a : ℕ) → (least ≤ a) × (a < 2 ^ 24) × (word ≡ address_word a) → ⊥) → AscendFrom least m → rest ≡ rest_of (map address_word m) → ⊥
no_address_there rest word behind least [] next none ascend is = let both = sym is ∙ next.parts in let differ : LINE_FEED ≡ SPACE = cc in cc
no_address_there rest word behind least (a ∷ m) next none ascend is = none a (ascend.0.0, All-head IsAddress a m ascend.1, sym (next_is rest word behind (address_word a) (map address_word m) next (hex_inside 6 a) is).0)

-- a word comes that is no address from the least one on
pub no_address_left : (text ended rest word behind : List ℕ) (least : ℕ) → AreRead text ended rest least → IsNext rest word behind → ((a : ℕ) → (least ≤ a) × (a < 2 ^ 24) × (word ≡ address_word a) → ⊥) →
    (l : List ℕ) → AscendFrom 0 l → text ≡ rest_of (map address_word l) → ⊥
no_address_left text ended rest word behind least read next none l ascend is = let before = read.back l ascend is in no_address_there rest word behind least before.0 next none before.2 before.3

-- ---- whole lines

first_is : (text word rest x : List ℕ) (xs : List (List ℕ)) → IsCut text word rest → IsWord x → text ≡ text_of (x ∷ xs) → (x ≡ word) × (rest ≡ rest_of xs)
first_is text word rest x xs cut inside is =
    let once = cut_once x word (rest_of xs) rest inside cut.inside (rest_ends xs) cut.ends (sym is ∙ cut.parts) in
    (once.0, sym once.1)

no_tick : (w : List ℕ) (n : ℕ) → n < 2 ^ 64 → w ≡ decimal n → w ≡ codes "tick" → ⊥
no_tick w n small number tick = let differ : false ≡ true = sym (number_no_tick n small) ∙ ap is_tick (sym number ∙ tick) in cc

in_words : (f : Format) (text : List ℕ) (l : Line) → Spells f text l → text ≡ text_of (line_words f l)
in_words f text l spells = spells.spelled ∙ line_is_words f l

spelled_by : (f : Format) (text word rest : List ℕ) (l : Line) (x : List ℕ) (xs : List (List ℕ)) → IsRangedLine f l → line_words f l ≡ x ∷ xs → IsCut text word rest → word ≡ x → rest ≡ rest_of xs → Spells f text l
spelled_by f text word rest l x xs ranged words cut first behind =
    record { ranged = ranged; spelled = cut.parts ∙ ap (λ w. w ++ rest) first ∙ ap (λ r. x ++ r) behind ∙ ap text_of (sym words) ∙ sym (line_is_words f l) }

-- a line of format 1 that begins with `tick`
pub tick_spells : (text word rest moment behind : List ℕ) → IsCut text word rest → word ≡ codes "tick" → IsNext rest moment behind → (l : Line) → IsTickOf moment behind l → Spells One text l
tick_spells text word rest moment behind cut first next (Frame port i v at) tick = absurd tick
tick_spells text word rest moment behind cut first next (Tick m ended) tick =
    spelled_by One text word rest (Tick m ended) (codes "tick") (decimal m ∷ map address_word ended) (tick.0, tick.1) refl cut first (next.parts ∙ ap (λ w. then_word (w ++ behind)) tick.2 ∙ ap (λ r. then_word (decimal m ++ r)) tick.3)

pub tick_spelled : (text word rest moment behind : List ℕ) → IsCut text word rest → word ≡ codes "tick" → IsNext rest moment behind → (l : Line) → Spells One text l → IsTickOf moment behind l
tick_spelled text word rest moment behind cut first next (Frame port i v at) spells =
    let small : port < 2 ^ 64 = omega (arith, spells.ranged.1) in
    no_tick word port small (sym (first_is text word rest (decimal port) (decimal i ∷ verdict_words v) cut (decimal_inside port small) (in_words One text (Frame port i v at) spells)).0) first
tick_spelled text word rest moment behind cut first next (Tick m ended) spells =
    let one = first_is text word rest (codes "tick") (decimal m ∷ map address_word ended) cut refl (in_words One text (Tick m ended) spells) in
    let two = next_is rest moment behind (decimal m) (map address_word ended) next (decimal_inside m spells.ranged.0) one.1 in
    (spells.ranged.0, spells.ranged.1, sym two.0, two.1)

pub tick_alone : (text word rest : List ℕ) → IsCut text word rest → word ≡ codes "tick" → ((more : List ℕ) → rest ≡ SPACE ∷ more → ⊥) → (l : Line) → Spells One text l → ⊥
tick_alone text word rest cut first none (Frame port i v at) spells =
    let small : port < 2 ^ 64 = omega (arith, spells.ranged.1) in
    no_tick word port small (sym (first_is text word rest (decimal port) (decimal i ∷ verdict_words v) cut (decimal_inside port small) (in_words One text (Frame port i v at) spells)).0) first
tick_alone text word rest cut first none (Tick m ended) spells =
    none (decimal m ++ rest_of (map address_word ended)) (first_is text word rest (codes "tick") (decimal m ∷ map address_word ended) cut refl (in_words One text (Tick m ended) spells)).1

-- a line of format 1 that begins with another word
pub frame_spells : (text word rest : List ℕ) → IsCut text word rest → (l : Line) → IsFrameOf word rest None l → Spells One text l
frame_spells text word rest cut (Tick m ended) frame = absurd frame
frame_spells text word rest cut (Frame port i v None) frame =
    spelled_by One text word rest (Frame port i v None) (decimal port) (decimal i ∷ verdict_words v) (frame.0, frame.1, frame.2, frame.3, tt) refl cut frame.4 frame.5
frame_spells text word rest cut (Frame port i v (Some t)) frame = absurd (let none = frame.6 in cc)

pub frame_spelled : (text word rest : List ℕ) → IsCut text word rest → (word ≡ codes "tick" → ⊥) → (l : Line) → Spells One text l → IsFrameOf word rest None l
frame_spelled text word rest cut other (Tick m ended) spells =
    absurd (other (sym (first_is text word rest (codes "tick") (decimal m ∷ map address_word ended) cut refl (in_words One text (Tick m ended) spells)).0))
frame_spelled text word rest cut other (Frame port i v (Some t)) spells = absurd spells.ranged.4
frame_spelled text word rest cut other (Frame port i v None) spells =
    let one = first_is text word rest (decimal port) (decimal i ∷ verdict_words v) cut (decimal_inside port (omega (arith, spells.ranged.1))) (in_words One text (Frame port i v None) spells) in
    (spells.ranged.0, spells.ranged.1, spells.ranged.2, spells.ranged.3, sym one.0, one.1, refl)

-- a line of format 2 of one word
pub clock_alone : (text clock rest : List ℕ) → IsCut text clock rest → ((more : List ℕ) → rest ≡ SPACE ∷ more → ⊥) → (l : Line) → Spells Two text l → ⊥
clock_alone text clock rest cut none (Tick m ended) spells =
    none (codes "tick" ++ rest_of (map address_word ended)) (first_is text clock rest (decimal m) (codes "tick" ∷ map address_word ended) cut (decimal_inside m spells.ranged.0) (in_words Two text (Tick m ended) spells)).1
clock_alone text clock rest cut none (Frame port i v None) spells = spells.ranged.4
clock_alone text clock rest cut none (Frame port i v (Some t)) spells =
    none (decimal port ++ rest_of (decimal i ∷ verdict_words v)) (first_is text clock rest (decimal t) (decimal port ∷ decimal i ∷ verdict_words v) cut (decimal_inside t spells.ranged.4) (in_words Two text (Frame port i v (Some t)) spells)).1

-- one whose second word is `tick`
pub clocked_tick_spells : (text clock rest word behind : List ℕ) → IsCut text clock rest → IsNext rest word behind → word ≡ codes "tick" → (l : Line) → IsTickOf clock behind l → Spells Two text l
clocked_tick_spells text clock rest word behind cut next second (Frame port i v at) tick = absurd tick
clocked_tick_spells text clock rest word behind cut next second (Tick m ended) tick =
    spelled_by Two text clock rest (Tick m ended) (decimal m) (codes "tick" ∷ map address_word ended) (tick.0, tick.1) refl cut tick.2 (next.parts ∙ ap (λ w. then_word (w ++ behind)) second ∙ ap (λ r. then_word (codes "tick" ++ r)) tick.3)

-- the clock, the second word and what is behind it
second_is : (text clock rest word behind : List ℕ) (t : ℕ) (x : List ℕ) (xs : List (List ℕ)) → IsCut text clock rest → IsNext rest word behind → t < 2 ^ 64 → IsWord x → text ≡ text_of (decimal t ∷ x ∷ xs) →
    (decimal t ≡ clock) × (x ≡ word) × (behind ≡ rest_of xs)
second_is text clock rest word behind t x xs cut next small inside is =
    let one = first_is text clock rest (decimal t) (x ∷ xs) cut (decimal_inside t small) is in
    let two = next_is rest word behind x xs next inside one.1 in
    (one.0, two.0, two.1)

pub clocked_tick_spelled : (text clock rest word behind : List ℕ) → IsCut text clock rest → IsNext rest word behind → word ≡ codes "tick" → (l : Line) → Spells Two text l → IsTickOf clock behind l
clocked_tick_spelled text clock rest word behind cut next second (Frame port i v None) spells = absurd spells.ranged.4
clocked_tick_spelled text clock rest word behind cut next second (Frame port i v (Some t)) spells =
    let small : port < 2 ^ 64 = omega (arith, spells.ranged.1) in
    let both = second_is text clock rest word behind t (decimal port) (decimal i ∷ verdict_words v) cut next spells.ranged.4 (decimal_inside port small) (in_words Two text (Frame port i v (Some t)) spells) in
    absurd (no_tick word port small (sym both.1) second)
clocked_tick_spelled text clock rest word behind cut next second (Tick m ended) spells =
    let both = second_is text clock rest word behind m (codes "tick") (map address_word ended) cut next spells.ranged.0 refl (in_words Two text (Tick m ended) spells) in
    (spells.ranged.0, spells.ranged.1, sym both.0, both.2)

-- one with another second word
pub no_clock : (text clock rest word behind : List ℕ) → IsCut text clock rest → IsNext rest word behind → ((n : ℕ) → (n < 2 ^ 64) × (clock ≡ decimal n) → ⊥) → (l : Line) → Spells Two text l → ⊥
no_clock text clock rest word behind cut next none (Tick m ended) spells =
    none m (spells.ranged.0, sym (second_is text clock rest word behind m (codes "tick") (map address_word ended) cut next spells.ranged.0 refl (in_words Two text (Tick m ended) spells)).0)
no_clock text clock rest word behind cut next none (Frame port i v None) spells = spells.ranged.4
no_clock text clock rest word behind cut next none (Frame port i v (Some t)) spells =
    none t (spells.ranged.4, sym (second_is text clock rest word behind t (decimal port) (decimal i ∷ verdict_words v) cut next spells.ranged.4 (decimal_inside port (omega (arith, spells.ranged.1))) (in_words Two text (Frame port i v (Some t)) spells)).0)

pub clocked_frame_spells : (text clock rest word behind : List ℕ) (t : ℕ) → IsCut text clock rest → IsNext rest word behind → (t < 2 ^ 64) × (clock ≡ decimal t) → (l : Line) → IsFrameOf word behind (Some t) l → Spells Two text l
clocked_frame_spells text clock rest word behind t cut next is (Tick m ended) frame = absurd frame
clocked_frame_spells text clock rest word behind t cut next is (Frame port i v None) frame = absurd (let none = frame.6 in cc)
clocked_frame_spells text clock rest word behind t cut next is (Frame port i v (Some u)) frame =
    let same : u ≡ t = (let both = frame.6 in cc) in
    spelled_by Two text clock rest (Frame port i v (Some u)) (decimal u) (decimal port ∷ decimal i ∷ verdict_words v) (frame.0, frame.1, frame.2, frame.3, omega (arith, same, is.0)) refl cut (is.1 ∙ ap decimal (sym same))
    (next.parts ∙ ap (λ w. then_word (w ++ behind)) frame.4 ∙ ap (λ r. then_word (decimal port ++ r)) frame.5)

pub clocked_frame_spelled : (text clock rest word behind : List ℕ) (t : ℕ) → IsCut text clock rest → IsNext rest word behind → (word ≡ codes "tick" → ⊥) → (t < 2 ^ 64) × (clock ≡ decimal t) → (l : Line) → Spells Two text l → IsFrameOf word behind (Some t) l
clocked_frame_spelled text clock rest word behind t cut next other is (Tick m ended) spells =
    absurd (other (sym (second_is text clock rest word behind m (codes "tick") (map address_word ended) cut next spells.ranged.0 refl (in_words Two text (Tick m ended) spells)).1))
clocked_frame_spelled text clock rest word behind t cut next other is (Frame port i v None) spells = absurd spells.ranged.4
clocked_frame_spelled text clock rest word behind t cut next other is (Frame port i v (Some u)) spells =
    let both = second_is text clock rest word behind u (decimal port) (decimal i ∷ verdict_words v) cut next spells.ranged.4 (decimal_inside port (omega (arith, spells.ranged.1))) (in_words Two text (Frame port i v (Some u)) spells) in
    (spells.ranged.0, spells.ranged.1, spells.ranged.2, spells.ranged.3, sym both.1, both.2, ap Some (other_number clock t is u spells.ranged.4 (sym both.0)))

-- ---- results

pub ok_if : (P Q : Line → Type 0) (r : Result Line LineError) → ((l : Line) → P l → Q l) → IfOk r P → IfOk r Q
ok_if P Q (Ok l) if is = if l is
ok_if P Q (Err e) if is = tt

pub fault_if : (P Q : Line → Type 0) (r : Result Line LineError) → ((l : Line) → Q l → P l) → IfErr r (λ e. e ≡ Fault → (l : Line) → P l → ⊥) → IfErr r (λ e. e ≡ Fault → (l : Line) → Q l → ⊥)
fault_if P Q (Ok l) if none = tt
fault_if P Q (Err e) if none = λ is l there. none is l (if l there)
