-- Lines one after another: where the first one ends, and one more behind the others.
use Rattle.std.proofs.Common.{◌≡◌, ℕ, Bool, true, false, not, List, [], ◌∷◌, ◌++◌, length, Option, codes, decimal, map, refl, sym, ◌∙◌, ap, append-nil, append_assoc, arith}
use Rattle.std.specs.Prelude.{◌==◌, if◌then◌else◌, ◌+◌}
use Rattle.std.specs.Io.BufRead.{take_through}
use Rattle.std.specs.List.{list_all}
use Rattle.fab_policy.specs.Private.LineWords.{is_inside, IsWord, rest_of, verdict_words}
use Rattle.fab_policy.specs.Spelling.{IsRangedLine, line_text}
use Rattle.fab_policy.specs.Text.{SPACE, LINE_FEED, address_word}
use Rattle.fab_policy.specs.declared.line.Format.{Format}
use Rattle.fab_policy.specs.declared.line.Format.TheVariants.{One}
use Rattle.fab_policy.specs.declared.line.Line.{Line}
use Rattle.fab_policy.specs.declared.line.Line.TheVariants.{Tick, Frame}
use Rattle.fab_policy.proofs.SpellingLemmas.{line_is_words, line_inside}
use Rattle.fab_policy.proofs.WordLemmas.{AreWords, text_of, and_left, and_right}
use Rattle.fab_migrate.specs.Old.{lines_text, clock_after, clock_behind, MayCome, AllCome, clocked, all_clocked}

-- ---- the first line of a text

not_true : (p : Bool) → not p ≡ true → p ≡ false
not_true true h = absurd (cc)
not_true false h = refl

no_feed : (b : ℕ) → is_inside b ≡ true → (b == LINE_FEED) ≡ false
no_feed b inside = not_true (b == LINE_FEED) (and_right (not (b == SPACE)) (not (b == LINE_FEED)) inside)

word_through : (w l : List ℕ) → IsWord w → take_through 10 (w ++ l) ≡ w ++ take_through 10 l
word_through [] l is = refl
word_through (b ∷ w) l is =
    ap (λ p. if p then b ∷ [] else b ∷ take_through 10 (w ++ l)) (no_feed b (and_left (is_inside b) (list_all is_inside w) is))
    ∙ ap (λ t. b ∷ t) (word_through w l (and_right (is_inside b) (list_all is_inside w) is))

rest_through : (ws : List (List ℕ)) (more : List ℕ) → AreWords ws → take_through 10 (rest_of ws ++ more) ≡ rest_of ws
rest_through [] more are = refl
rest_through (w ∷ ws) more are =
    ap (λ t. SPACE ∷ take_through 10 t) (append_assoc w (rest_of ws) more)
    ∙ ap (λ t. SPACE ∷ t) (word_through w (rest_of ws ++ more) are.0 ∙ ap (λ t. w ++ t) (rest_through ws more are.1))

words_through : (w : List ℕ) (ws : List (List ℕ)) (more : List ℕ) → AreWords (w ∷ ws) → take_through 10 (text_of (w ∷ ws) ++ more) ≡ text_of (w ∷ ws)
words_through w ws more are =
    ap (take_through 10) (append_assoc w (rest_of ws) more) ∙ word_through w (rest_of ws ++ more) are.0 ∙ ap (λ t. w ++ t) (rest_through ws more are.1)

by_words : (l : Line) (w : List ℕ) (ws : List (List ℕ)) (more : List ℕ) → line_text One l ≡ text_of (w ∷ ws) → AreWords (w ∷ ws) → take_through 10 (line_text One l ++ more) ≡ line_text One l
by_words l w ws more is are = ap (λ t. take_through 10 (t ++ more)) is ∙ words_through w ws more are ∙ sym is

-- the text of a line, whatever is behind it, is the first line
pub line_through : (l : Line) (more : List ℕ) → IsRangedLine One l → take_through 10 (line_text One l ++ more) ≡ line_text One l
line_through (Tick m ended) more ranged = by_words (Tick m ended) (codes "tick") (decimal m ∷ map address_word ended) more (line_is_words One (Tick m ended)) (line_inside One (Tick m ended) ranged)
line_through (Frame port index v at) more ranged =
    by_words (Frame port index v at) (decimal port) (decimal index ∷ verdict_words v) more (line_is_words One (Frame port index v at)) (line_inside One (Frame port index v at) ranged)

push_not_empty : {A : Type 0} (l m : List A) (a : A) → [] ≡ (l ++ a ∷ []) ++ m → ⊥
push_not_empty [] m a e = cc
push_not_empty (b ∷ l) m a e = cc

-- no line is empty
pub line_some : (l : Line) (more : List ℕ) → [] ≡ line_text One l ++ more → ⊥
line_some (Tick m ended) more e = absurd (cc)
line_some (Frame port index v at) more e = push_not_empty _ more LINE_FEED e

-- ---- one line more

pub text_push : (f : Format) (ls : List Line) (l : Line) → lines_text f (ls ++ l ∷ []) ≡ lines_text f ls ++ line_text f l
text_push f [] l = append-nil (line_text f l)
text_push f (k ∷ ls) l = ap (λ t. line_text f k ++ t) (text_push f ls l) ∙ sym (append_assoc (line_text f k) (lines_text f ls) (line_text f l))

pub behind_push : (c : Option ℕ) (ls : List Line) (l : Line) → clock_behind c (ls ++ l ∷ []) ≡ clock_after (clock_behind c ls) l
behind_push c [] l = refl
behind_push c (k ∷ ls) l = behind_push (clock_after c k) ls l

pub come_push : (c : Option ℕ) (ls : List Line) (l : Line) → AllCome c ls → IsRangedLine One l → MayCome (clock_behind c ls) l → AllCome c (ls ++ l ∷ [])
come_push c [] l all ranged may = (ranged, may, tt)
come_push c (k ∷ ls) l all ranged may = (all.0, all.1, come_push (clock_after c k) ls l all.2 ranged may)

pub clocked_push : (c : Option ℕ) (ls : List Line) (l : Line) → all_clocked c (ls ++ l ∷ []) ≡ all_clocked c ls ++ clocked (clock_behind c ls) l ∷ []
clocked_push c [] l = refl
clocked_push c (k ∷ ls) l = ap (λ ks. clocked c k ∷ ks) (clocked_push (clock_after c k) ls l)

pub length_push : {A : Type 0} (l : List A) (a : A) → length (l ++ a ∷ []) ≡ length l + 1
length_push [] a = refl
length_push (b ∷ l) a = let more = length_push l a in omega arith
