-- The text of a journal and the frames of each port name it.
use Rattle.std.proofs.Common.{◌≡◌, ℕ, ◌<◌, ◌^◌, Bool, true, false, List, [], ◌∷◌, ◌++◌, Option, unwrap_or, refl, sym, ◌∙◌, ap, append_assoc, codes, decimal, arith}
use Rattle.std.specs.Prelude.{◌==◌, if◌then◌else◌}
use Rattle.std.proofs.lemmas.List.{append-nil, append_cancel_left}
use Rattle.fab_base.specs.declared.values.Caught.{Caught}
use Rattle.fab_policy.specs.Journal.{Journal, now}
use Rattle.fab_policy.specs.Legal.{of_port}
use Rattle.fab_policy.specs.Ranged.{IsRanged, IsRangedEvent, TextNamesJournal}
use Rattle.fab_policy.specs.Spelling.{IsClockOf, line_of, line_text, IsRangedLine, LinesSpellEntries, Spells, SpellsOnly}
use Rattle.fab_policy.specs.Text.{LINE_FEED, then_word, address_words, frame_words, head_line, line, line1, text, text1}
use Rattle.fab_policy.specs.declared.event.Event.{Event}
use Rattle.fab_policy.specs.declared.event.Event.TheVariants as event
use Rattle.fab_policy.specs.declared.line.Format.{Format}
use Rattle.fab_policy.specs.declared.line.Format.TheVariants.{One, Two}
use Rattle.fab_policy.specs.declared.line.Line.{Line}
use Rattle.fab_policy.specs.declared.line.Line.TheVariants.{Tick, Frame}
use Rattle.fab_policy.specs.declared.verdict.Verdict.{Verdict}
use Rattle.fab_policy.proofs.SpellingLemmas.{line_once, lines_are_unique}

-- ---- lists that end so

push_not_empty : {A : Type 0} (l m : List A) (a : A) → [] ≡ (l ++ a ∷ []) ++ m → ⊥
push_not_empty [] m a e = cc
push_not_empty (b ∷ l) m a e = cc

end_not_empty : {A : Type 0} (l : List A) (a : A) → [] ≡ l ++ a ∷ [] → ⊥
end_not_empty [] a e = cc
end_not_empty (b ∷ l) a e = cc

push_once : {A : Type 0} (l m : List A) (a b : A) → l ++ a ∷ [] ≡ m ++ b ∷ [] → (l ≡ m) × (a ≡ b)
push_once [] [] a b e = (refl, let same : a ≡ b = cc in same)
push_once [] (c ∷ m) a b e = absurd (end_not_empty m b (let tail : [] ≡ m ++ b ∷ [] = cc in tail))
push_once (c ∷ l) [] a b e = absurd (end_not_empty l a (let tail : [] ≡ l ++ a ∷ [] = cc in tail))
push_once (c ∷ l) (d ∷ m) a b e =
    let more = push_once l m a b (let tails : l ++ a ∷ [] ≡ m ++ b ∷ [] = cc in tails) in
    let first : c ≡ d = cc in
    (let others : l ≡ m = more.0 in cc, more.1)

-- ---- the lines of a journal

-- the lines in their order
abbrev lines : Format → Journal → List Line
lines f [] = []
lines f (e ∷ J) = lines f J ++ line_of f (now (e ∷ J)) e ∷ []

abbrev joined : Format → List Line → List ℕ
joined f [] = []
joined f (l ∷ ls) = line_text f l ++ joined f ls

abbrev AreRanged : Format → List Line → Type 0
AreRanged f [] = Unit {0}
AreRanged f (l ∷ ls) = IsRangedLine f l × AreRanged f ls

joined-push : (f : Format) (ls : List Line) (l : Line) → joined f (ls ++ l ∷ []) ≡ joined f ls ++ line_text f l
joined-push f [] l = append-nil (line_text f l)
joined-push f (k ∷ ls) l = ap (λ t. line_text f k ++ t) (joined-push f ls l) ∙ sym (append_assoc (line_text f k) (joined f ls) (line_text f l))

ranged-push : (f : Format) (ls : List Line) (l : Line) → AreRanged f ls → IsRangedLine f l → AreRanged f (ls ++ l ∷ [])
ranged-push f [] l ls_are l_is = (l_is, tt)
ranged-push f (k ∷ ls) l ls_are l_is = (ls_are.0, ranged-push f ls l ls_are.1 l_is)

line_not_empty : (f : Format) (l : Line) (r : List ℕ) → [] ≡ line_text f l ++ r → ⊥
line_not_empty One (Tick m ended) r e = push_not_empty (codes "tick" ++ then_word (decimal m) ++ address_words ended) r LINE_FEED e
line_not_empty Two (Tick m ended) r e = push_not_empty (decimal m ++ then_word (codes "tick") ++ address_words ended) r LINE_FEED e
line_not_empty One (Frame port index v clock) r e = push_not_empty (frame_words port index v) r LINE_FEED e
line_not_empty Two (Frame port index v clock) r e = push_not_empty (decimal (unwrap_or clock 0) ++ then_word (frame_words port index v)) r LINE_FEED e

joined_once : (f : Format) (ls ks : List Line) → AreRanged f ls → AreRanged f ks → joined f ls ≡ joined f ks → ls ≡ ks
joined_once f [] [] ls_are ks_are e = refl
joined_once f [] (k ∷ ks) ls_are ks_are e = absurd (line_not_empty f k (joined f ks) e)
joined_once f (l ∷ ls) [] ls_are ks_are e = absurd (line_not_empty f l (joined f ls) (sym e))
joined_once f (l ∷ ls) (k ∷ ks) ls_are ks_are e =
    let cut = line_once f l k (joined f ls) (joined f ks) ls_are.0 ks_are.0 e in
    let first : l ≡ k = cut.0 in
    let others : ls ≡ ks = joined_once f ls ks ls_are.1 ks_are.1 cut.1 in
    cc

line1_is : (t : ℕ) (e : Event) → line1 e ≡ line_text One (line_of One t e)
line1_is t (event.Tick m ended) = refl
line1_is t (event.Frame port index caught v) = refl

line_is : (e : Event) (J : Journal) → line (now (e ∷ J)) e ≡ line_text Two (line_of Two (now (e ∷ J)) e)
line_is (event.Tick m ended) J = refl
line_is (event.Frame port index caught v) J = refl

clocked_is : (t : ℕ) (e : Event) → IsClockOf t e → line t e ≡ line_text Two (line_of Two t e)
clocked_is t (event.Tick m ended) same = ap (λ (n : ℕ). line n (event.Tick m ended)) same
clocked_is t (event.Frame port index caught v) same = refl

text1_is : (J : Journal) → text1 J ≡ joined One (lines One J)
unfolding text1
text1_is [] = refl
text1_is (e ∷ J) =
    ap (λ t. t ++ line1 e) (text1_is J) ∙ ap (λ t. joined One (lines One J) ++ t) (line1_is (now (e ∷ J)) e) ∙ sym (joined-push One (lines One J) (line_of One (now (e ∷ J)) e))

text_is : (J : Journal) → text J ≡ head_line ++ joined Two (lines Two J)
unfolding text
text_is [] = refl
text_is (e ∷ J) =
    ap (λ t. t ++ line (now (e ∷ J)) e) (text_is J) ∙ ap (λ t. (head_line ++ joined Two (lines Two J)) ++ t) (line_is e J)
    ∙ append_assoc head_line (joined Two (lines Two J)) (line_text Two (line_of Two (now (e ∷ J)) e))
    ∙ ap (λ t. head_line ++ t) (sym (joined-push Two (lines Two J) (line_of Two (now (e ∷ J)) e)))

now_small : (J : Journal) → IsRanged J → now J < 2 ^ 64
now_small [] ranged = omega arith
now_small (event.Tick m ended ∷ J) ranged = ranged.1.0
now_small (event.Frame port index caught v ∷ J) ranged = now_small J ranged.0

entry_ranged : (f : Format) (t : ℕ) (e : Event) → t < 2 ^ 64 → IsRangedEvent e → IsRangedLine f (line_of f t e)
entry_ranged f t (event.Tick m ended) small ranged = ranged
entry_ranged One t (event.Frame port index caught v) small ranged = (ranged.0, ranged.1, ranged.2, ranged.4, tt)
entry_ranged Two t (event.Frame port index caught v) small ranged = (ranged.0, ranged.1, ranged.2, ranged.4, small)

only : (f : Format) (text : List ℕ) (l : Line) → Spells f text l → SpellsOnly f text l
only f text l is = record { spells = is; only = λ m other. lines_are_unique f text m l other is }

-- each entry's line is its spelling
pub lines_spell_entries : LinesSpellEntries
lines_spell_entries t e small ranged = (
  only One (line1 e) (line_of One t e) (record { ranged = entry_ranged One t e small ranged; spelled = line1_is t e }),
  λ same. only Two (line t e) (line_of Two t e) (record { ranged = entry_ranged Two t e small ranged; spelled = clocked_is t e same }),
)

lines_ranged : (f : Format) (J : Journal) → IsRanged J → AreRanged f (lines f J)
lines_ranged f [] ranged = tt
lines_ranged f (e ∷ J) ranged = ranged-push f (lines f J) (line_of f (now (e ∷ J)) e) (lines_ranged f J ranged.0) (entry_ranged f (now (e ∷ J)) e (now_small (e ∷ J) ranged) ranged.1)

-- ---- the entries of the lines

-- the same but for the frame itself
abbrev SameEntry : Event → Event → Type 0
SameEntry (event.Tick m ended) (event.Tick n gone) = (m ≡ n) × (ended ≡ gone)
SameEntry (event.Tick m ended) (event.Frame q j b w) = ⊥
SameEntry (event.Frame p i c v) (event.Tick n gone) = ⊥
SameEntry (event.Frame p i c v) (event.Frame q j b w) = (p ≡ q) × (i ≡ j) × (v ≡ w)

frames_once : (p q i j : ℕ) (v w : Verdict) (c d : Option ℕ) → Frame p i v c ≡ Frame q j w d → (p ≡ q) × (i ≡ j) × (v ≡ w)
frames_once p q i j v w c d e = (let one : p ≡ q = cc in one, let two : i ≡ j = cc in two, let three : v ≡ w = cc in three)

entry_once : (f : Format) (t u : ℕ) (e d : Event) → line_of f t e ≡ line_of f u d → SameEntry e d
entry_once f t u (event.Tick m ended) (event.Tick n gone) e = (let one : m ≡ n = cc in one, let two : ended ≡ gone = cc in two)
entry_once One t u (event.Tick m ended) (event.Frame q j b w) e = cc
entry_once Two t u (event.Tick m ended) (event.Frame q j b w) e = cc
entry_once One t u (event.Frame p i c v) (event.Tick n gone) e = cc
entry_once Two t u (event.Frame p i c v) (event.Tick n gone) e = cc
entry_once One t u (event.Frame p i c v) (event.Frame q j b w) e = frames_once p q i j v w _ _ e
entry_once Two t u (event.Frame p i c v) (event.Frame q j b w) e = frames_once p q i j v w _ _ e

front_once : {A : Type 0} (b : Bool) (l m : List A) (x y : A) → l ++ (if b then x ∷ [] else []) ≡ m ++ (if b then y ∷ [] else []) → l ≡ m
front_once true l m x y e = (push_once l m x y e).0
front_once false l m x y e = sym (append-nil l) ∙ e ∙ append-nil m

last_once : {A : Type 0} (b : Bool) (l m : List A) (x y : A) → b ≡ true → l ++ (if b then x ∷ [] else []) ≡ m ++ (if b then y ∷ [] else []) → x ≡ y
last_once true l m x y is e = (push_once l m x y e).1
last_once false l m x y is e = absurd (cc)

abbrev SameFrames : Journal → Journal → Type 0
SameFrames I J = (p : ℕ) → of_port p I ≡ of_port p J

same_tick : (m n : ℕ) (x y : List ℕ) (I J : Journal) → m ≡ n → x ≡ y → I ≡ J → event.Tick m x ∷ I ≡ event.Tick n y ∷ J
same_tick m n x y I J e d tail = cc

same_frame : (p q i j : ℕ) (c b : Caught) (v w : Verdict) (I J : Journal) → p ≡ q → i ≡ j → c ≡ b → v ≡ w → I ≡ J → event.Frame p i c v ∷ I ≡ event.Frame q j b w ∷ J
same_frame p q i j c b v w I J e1 e2 e3 e4 tail = cc

-- the frames of the ports, where the last entries are frames of one port
frames_behind : (p q i j : ℕ) (c b : Caught) (v w : Verdict) (I J : Journal) → p ≡ q → SameFrames (event.Frame p i c v ∷ I) (event.Frame q j b w ∷ J) →
    (r : ℕ) → of_port r I ++ (if p == r then (i, c) ∷ [] else []) ≡ of_port r J ++ (if p == r then (j, b) ∷ [] else [])
frames_behind p q i j c b v w I J same frames r = frames r ∙ ap (λ (n : ℕ). of_port r J ++ (if n == r then (j, b) ∷ [] else [])) (sym same)

own : (p : ℕ) → (p == p) ≡ true
own p = grind arith

same_entries : (e d : Event) (I J : Journal) → SameEntry e d → SameFrames (e ∷ I) (d ∷ J) → (SameFrames I J → I ≡ J) → e ∷ I ≡ d ∷ J
same_entries (event.Tick m x) (event.Tick n y) I J same frames before = same_tick m n x y I J same.0 same.1 (before frames)
same_entries (event.Tick m x) (event.Frame q j b w) I J same frames before = absurd same
same_entries (event.Frame p i c v) (event.Tick n y) I J same frames before = absurd same
same_entries (event.Frame p i c v) (event.Frame q j b w) I J same frames before =
    let pieces = frames_behind p q i j c b v w I J same.0 frames in
    let pair : (i, c) ≡ (j, b) = last_once (p == p) (of_port p I) (of_port p J) (i, c) (j, b) (own p) (pieces p) in
    let caught : c ≡ b = ap (λ (x : ℕ × Caught). x.1) pair in
    same_frame p q i j c b v w I J same.0 same.1 caught same.2 (before (λ r. front_once (p == r) (of_port r I) (of_port r J) (i, c) (j, b) (pieces r)))

same_journal : (f : Format) (I J : Journal) → lines f I ≡ lines f J → SameFrames I J → I ≡ J
same_journal f [] [] e frames = refl
same_journal f [] (d ∷ J) e frames = absurd (end_not_empty (lines f J) (line_of f (now (d ∷ J)) d) e)
same_journal f (d ∷ I) [] e frames = absurd (end_not_empty (lines f I) (line_of f (now (d ∷ I)) d) (sym e))
same_journal f (e ∷ I) (d ∷ J) same frames =
    let cut = push_once (lines f I) (lines f J) (line_of f (now (e ∷ I)) e) (line_of f (now (d ∷ J)) d) same in
    same_entries e d I J (entry_once f (now (e ∷ I)) (now (d ∷ J)) e d cut.1) frames (same_journal f I J cut.0)

pub text_names_journal : TextNamesJournal
text_names_journal I J I_is J_is frames = (
  λ e. same_journal Two I J (joined_once Two (lines Two I) (lines Two J) (lines_ranged Two I I_is) (lines_ranged Two J J_is) (append_cancel_left head_line (joined Two (lines Two I)) (joined Two (lines Two J)) (sym (text_is I) ∙ e ∙ text_is J))) frames,
  λ e. same_journal One I J (joined_once One (lines One I) (lines One J) (lines_ranged One I I_is) (lines_ranged One J J_is) (sym (text1_is I) ∙ e ∙ text1_is J)) frames,
)
