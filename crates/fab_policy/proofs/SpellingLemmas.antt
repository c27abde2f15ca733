-- The words of a line, and that they name it.
use Rattle.std.proofs.Common.{◌≡◌, ℕ, ◌^◌, ◌<◌, ◌≤◌, Bool, false, cond, eqb, ◌&&◌, IfSome, List, [], ◌∷◌, ◌++◌, map, Option, Some, None, unwrap_or, refl, sym, ◌∙◌, ap, append_assoc, codes, decimal, arith}
use Rattle.std.proofs.lemmas.List.Elements.{All-head, All-tail}
use Rattle.std.specs.List.{All}
use Rattle.std.specs.Str.Parse.{AllDigits, digits_value}
use Rattle.std.proofs.lemmas.Str.Parse.{digit_from_value}
use Rattle.std.proofs.lemmas.Fmt.{decimal_is_IsNumeral}
use Rattle.fab_config.specs.Settings.{same_bytes}
use Rattle.fab_policy.specs.Ranged.{IsAddress, IsRangedVerdict}
use Rattle.fab_policy.specs.Spelling.{line_text, IsRangedLine, HasClockOf, LinesAreUnique}
use Rattle.fab_policy.specs.Private.LineWords.{IsWord, rest_of, number_words, verdict_words}
use Rattle.fab_policy.proofs.RuleLemmas.{rule_named, rule_named-word}
use Rattle.fab_policy.proofs.WordLemmas.{text_of}
use Rattle.fab_policy.specs.Text.{LINE_FEED, then_word, address_word, address_words, code_word, rule_word, cause_text, verdict_text, frame_words}
use Rattle.fab_policy.specs.declared.line.Format.{Format}
use Rattle.fab_policy.specs.declared.line.Format.TheVariants.{One, Two}
use Rattle.fab_policy.specs.declared.line.Line.{Line}
use Rattle.fab_policy.specs.declared.line.Line.TheVariants.{Tick, Frame}
use Rattle.fab_policy.specs.declared.verdict.Rule.{Rule}
use Rattle.fab_policy.specs.declared.verdict.Rule.TheVariants as rule
use Rattle.fab_policy.specs.declared.verdict.Verdict.{Verdict}
use Rattle.fab_policy.specs.declared.verdict.Verdict.TheVariants.{Vlans, Advertised, Granted, Rejected, Logout, AliveNode, AlivePort, NsLogin, NsLogout, Watching, Registered, Answered, Refused, Noted, Forwarded, Dropped}
use Rattle.fab_policy.proofs.WordLemmas.{AreWords, text_once, decimal_inside, hex_inside, hex_after, hex_after-hex, digits_value-decimal}

-- ---- a text is its words

-- the words of a line
abbrev pub line_words : Format → Line → List (List ℕ)
line_words One (Tick m ended) = codes "tick" ∷ decimal m ∷ map address_word ended
line_words One (Frame port index verdict clock) = decimal port ∷ decimal index ∷ verdict_words verdict
line_words Two (Tick m ended) = decimal m ∷ codes "tick" ∷ map address_word ended
line_words Two (Frame port index verdict clock) = decimal (unwrap_or clock 0) ∷ decimal port ∷ decimal index ∷ verdict_words verdict

cause_rest : (r : Rule) (n : Option ℕ) → cause_text (record { rule = r; number = n }) ++ LINE_FEED ∷ [] ≡ rule_word r ++ rest_of (number_words n)
cause_rest r None = append_assoc (rule_word r) [] (LINE_FEED ∷ [])
cause_rest r (Some n) = append_assoc (rule_word r) (then_word (decimal n)) (LINE_FEED ∷ [])

-- the text of a verdict is its words
pub verdict_rest : (v : Verdict) → then_word (verdict_text v) ++ LINE_FEED ∷ [] ≡ rest_of (verdict_words v)
verdict_rest Vlans = refl
verdict_rest Advertised = refl
verdict_rest (Granted a) = refl
verdict_rest (Rejected reason explanation) = refl
verdict_rest (Logout a) = refl
verdict_rest AliveNode = refl
verdict_rest (AlivePort a) = refl
verdict_rest NsLogin = refl
verdict_rest NsLogout = refl
verdict_rest (Watching function) = refl
verdict_rest Registered = refl
verdict_rest Answered = refl
verdict_rest (Refused reason explanation) = refl
verdict_rest Noted = refl
verdict_rest (Forwarded port) = refl
verdict_rest (Dropped cause) = ap (λ l. then_word (codes "dropped" ++ then_word l)) (cause_rest cause.rule cause.number)

addresses_rest : (ended : List ℕ) → address_words ended ++ LINE_FEED ∷ [] ≡ rest_of (map address_word ended)
addresses_rest [] = refl
addresses_rest (a ∷ ended) = append_assoc (then_word (address_word a)) (address_words ended) (LINE_FEED ∷ []) ∙ ap (λ l. then_word (address_word a) ++ l) (addresses_rest ended)

-- three pieces joined from the left are joined from the right
frame_rest : (port index : ℕ) (v : Verdict) → frame_words port index v ++ LINE_FEED ∷ [] ≡ decimal port ++ rest_of (decimal index ∷ verdict_words v)
frame_rest port index v =
    append_assoc (decimal port ++ then_word (decimal index)) (then_word (verdict_text v)) (LINE_FEED ∷ [])
    ∙ append_assoc (decimal port) (then_word (decimal index)) (then_word (verdict_text v) ++ LINE_FEED ∷ [])
    ∙ ap (λ l. decimal port ++ (then_word (decimal index) ++ l)) (verdict_rest v)

pub line_is_words : (f : Format) (l : Line) → line_text f l ≡ text_of (line_words f l)
line_is_words One (Tick m ended) =
    append_assoc (codes "tick" ++ then_word (decimal m)) (address_words ended) (LINE_FEED ∷ [])
    ∙ ap (λ l. (codes "tick" ++ then_word (decimal m)) ++ l) (addresses_rest ended)
line_is_words Two (Tick m ended) =
    append_assoc (decimal m ++ then_word (codes "tick")) (address_words ended) (LINE_FEED ∷ [])
    ∙ ap (λ l. (decimal m ++ then_word (codes "tick")) ++ l) (addresses_rest ended)
    ∙ append_assoc (decimal m) (then_word (codes "tick")) (rest_of (map address_word ended))
line_is_words One (Frame port index v clock) = frame_rest port index v
line_is_words Two (Frame port index v clock) =
    append_assoc (decimal (unwrap_or clock 0)) (then_word (frame_words port index v)) (LINE_FEED ∷ [])
    ∙ ap (λ l. decimal (unwrap_or clock 0) ++ then_word l) (frame_rest port index v)

-- ---- the words of a line are words

rule_inside : (r : Rule) → IsWord (rule_word r)
rule_inside rule.Truncated = refl
rule_inside _ = refl

number_inside : (n : Option ℕ) → IfSome n (λ m. m < 2 ^ 32) → AreWords (number_words n)
number_inside None small = tt
number_inside (Some n) small = (decimal_inside n (omega arith), tt)

pub verdict_inside : (v : Verdict) → IsRangedVerdict v → AreWords (verdict_words v)
verdict_inside Vlans ranged = (refl, tt)
verdict_inside Advertised ranged = (refl, tt)
verdict_inside (Granted a) ranged = (refl, (hex_inside 6 a, tt))
verdict_inside (Rejected reason explanation) ranged = (refl, (hex_inside 2 reason, (hex_inside 2 explanation, tt)))
verdict_inside (Logout a) ranged = (refl, (hex_inside 6 a, tt))
verdict_inside AliveNode ranged = (refl, tt)
verdict_inside (AlivePort a) ranged = (refl, (hex_inside 6 a, tt))
verdict_inside NsLogin ranged = (refl, tt)
verdict_inside NsLogout ranged = (refl, tt)
verdict_inside (Watching function) ranged = (refl, (decimal_inside function (omega arith), tt))
verdict_inside Registered ranged = (refl, tt)
verdict_inside Answered ranged = (refl, tt)
verdict_inside (Refused reason explanation) ranged = (refl, (hex_inside 2 reason, (hex_inside 2 explanation, tt)))
verdict_inside Noted ranged = (refl, tt)
verdict_inside (Forwarded port) ranged = (refl, (decimal_inside port (omega arith), tt))
verdict_inside (Dropped cause) ranged = (refl, (rule_inside cause.rule, number_inside cause.number ranged.1))

addresses_inside : (ended : List ℕ) → AreWords (map address_word ended)
addresses_inside [] = tt
addresses_inside (a ∷ ended) = (hex_inside 6 a, addresses_inside ended)

clock_inside : (f : Format) (clock : Option ℕ) → HasClockOf f clock → unwrap_or clock 0 < 2 ^ 64
clock_inside One None has = omega arith
clock_inside One (Some t) has = absurd has
clock_inside Two None has = absurd has
clock_inside Two (Some t) has = has

frame_inside : (port index : ℕ) (v : Verdict) → port ≤ 64 → index < 2 ^ 64 → IsRangedVerdict v → AreWords (decimal port ∷ decimal index ∷ verdict_words v)
frame_inside port index v port_small index_small ranged = (decimal_inside port (omega arith), (decimal_inside index index_small, verdict_inside v ranged))

pub line_inside : (f : Format) (l : Line) → IsRangedLine f l → AreWords (line_words f l)
line_inside One (Tick m ended) ranged = (refl, (decimal_inside m ranged.0, addresses_inside ended))
line_inside Two (Tick m ended) ranged = (decimal_inside m ranged.0, (refl, addresses_inside ended))
line_inside One (Frame port index v clock) ranged = frame_inside port index v ranged.1 ranged.2 ranged.3
line_inside Two (Frame port index v clock) ranged = (decimal_inside (unwrap_or clock 0) (clock_inside Two clock ranged.4), frame_inside port index v ranged.1 ranged.2 ranged.3)

-- ---- a total reader of words, which gives back what they were made of

abbrev one_word : List ℕ → Verdict
one_word w =
    cond (same_bytes w (codes "vlans")) Vlans
    (cond (same_bytes w (codes "advertised")) Advertised
    (cond (same_bytes w (codes "alive")) AliveNode
    (cond (same_bytes w (codes "ns-login")) NsLogin
    (cond (same_bytes w (codes "ns-logout")) NsLogout
    (cond (same_bytes w (codes "registered")) Registered
    (cond (same_bytes w (codes "answered")) Answered Noted))))))

abbrev two_words : List ℕ → List ℕ → Verdict
two_words w x =
    cond (same_bytes w (codes "granted")) (Granted (hex_after 0 x))
    (cond (same_bytes w (codes "logout")) (Logout (hex_after 0 x))
    (cond (same_bytes w (codes "alive")) (AlivePort (hex_after 0 x))
    (cond (same_bytes w (codes "watching")) (Watching (digits_value 10 x))
    (cond (same_bytes w (codes "forwarded")) (Forwarded (digits_value 10 x)) (Dropped (record { rule = rule_named x; number = None }))))))

abbrev three_words : List ℕ → List ℕ → List ℕ → Verdict
three_words w x y =
    cond (same_bytes w (codes "rejected")) (Rejected (hex_after 0 x) (hex_after 0 y))
    (cond (same_bytes w (codes "refused")) (Refused (hex_after 0 x) (hex_after 0 y)) (Dropped (record { rule = rule_named x; number = Some (digits_value 10 y) })))

abbrev verdict_named : List (List ℕ) → Verdict
verdict_named [] = Noted
verdict_named (w ∷ []) = one_word w
verdict_named (w ∷ x ∷ []) = two_words w x
verdict_named (w ∷ x ∷ y ∷ more) = three_words w x y

cause_named : (r : Rule) (n : Option ℕ) → IfSome n (λ m. m < 2 ^ 32) → verdict_named (codes "dropped" ∷ rule_word r ∷ number_words n) ≡ Dropped (record { rule = r; number = n })
cause_named r None small = ap (λ (q : Rule). Dropped (record { rule = q; number = None })) (rule_named-word r)
cause_named r (Some n) small =
    ap (λ (q : Rule). Dropped (record { rule = q; number = Some (digits_value 10 (decimal n)) })) (rule_named-word r)
    ∙ ap (λ (m : ℕ). Dropped (record { rule = r; number = Some m })) (digits_value-decimal n (omega arith))

verdict_named-words : (v : Verdict) → IsRangedVerdict v → verdict_named (verdict_words v) ≡ v
verdict_named-words Vlans ranged = refl
verdict_named-words Advertised ranged = refl
verdict_named-words (Granted a) ranged = ap Granted (hex_after-hex 6 a ranged)
verdict_named-words (Rejected reason explanation) ranged =
    ap (λ (n : ℕ). Rejected n (hex_after 0 (code_word explanation))) (hex_after-hex 2 reason ranged.0) ∙ ap (λ (n : ℕ). Rejected reason n) (hex_after-hex 2 explanation ranged.1)
verdict_named-words (Logout a) ranged = ap Logout (hex_after-hex 6 a ranged)
verdict_named-words AliveNode ranged = refl
verdict_named-words (AlivePort a) ranged = ap AlivePort (hex_after-hex 6 a ranged)
verdict_named-words NsLogin ranged = refl
verdict_named-words NsLogout ranged = refl
verdict_named-words (Watching function) ranged = ap Watching (digits_value-decimal function (omega arith))
verdict_named-words Registered ranged = refl
verdict_named-words Answered ranged = refl
verdict_named-words (Refused reason explanation) ranged =
    ap (λ (n : ℕ). Refused n (hex_after 0 (code_word explanation))) (hex_after-hex 2 reason ranged.0) ∙ ap (λ (n : ℕ). Refused reason n) (hex_after-hex 2 explanation ranged.1)
verdict_named-words Noted ranged = refl
verdict_named-words (Forwarded port) ranged = ap Forwarded (digits_value-decimal port (omega arith))
verdict_named-words (Dropped cause) ranged = cause_named cause.rule cause.number ranged.1

addresses_named : (ended : List ℕ) → All IsAddress ended → map (hex_after 0) (map address_word ended) ≡ ended
addresses_named [] fit = refl
addresses_named (a ∷ ended) fit =
    ap (λ (b : ℕ). b ∷ map (hex_after 0) (map address_word ended)) (hex_after-hex 6 a (All-head IsAddress a ended fit)) ∙ ap (λ l. a ∷ l) (addresses_named ended (All-tail IsAddress a ended fit))

-- whether the word is `tick`
abbrev pub is_tick : List ℕ → Bool
is_tick w = same_bytes w (codes "tick")

digits_no_tick : (ds : List ℕ) → AllDigits 10 ds → is_tick ds ≡ false
digits_no_tick [] digits = refl
digits_no_tick (c ∷ cs) digits =
    let range = digit_from_value c digits.0 in
    let other : eqb c 116 ≡ false = grind (arith, range) in
    ap (λ p. p && same_bytes cs (codes "ick")) other

pub number_no_tick : (n : ℕ) → n < 2 ^ 64 → is_tick (decimal n) ≡ false
number_no_tick n small = digits_no_tick (decimal n) (decimal_is_IsNumeral n small).0.1

abbrev after_clock : ℕ → List ℕ → List (List ℕ) → Line
after_clock t w [] = Tick t []
after_clock t w (x ∷ more) = Frame (digits_value 10 w) (digits_value 10 x) (verdict_named more) (Some t)

abbrev line_named : Format → List (List ℕ) → Line
line_named f [] = Tick 0 []
line_named f (w ∷ []) = Tick 0 []
line_named One (w ∷ x ∷ more) = cond (is_tick w) (Tick (digits_value 10 x) (map (hex_after 0) more)) (Frame (digits_value 10 w) (digits_value 10 x) (verdict_named more) None)
line_named Two (w ∷ x ∷ more) = cond (is_tick x) (Tick (digits_value 10 w) (map (hex_after 0) more)) (after_clock (digits_value 10 w) x more)

tick_same : (m n : ℕ) (l k : List ℕ) → m ≡ n → l ≡ k → Tick m l ≡ Tick n k
tick_same m n l k e d = cc

frame_same : (p q i j : ℕ) (v w : Verdict) (c d : Option ℕ) → p ≡ q → i ≡ j → v ≡ w → c ≡ d → Frame p i v c ≡ Frame q j w d
frame_same p q i j v w c d e1 e2 e3 e4 = cc

line_named-words : (f : Format) (l : Line) → IsRangedLine f l → line_named f (line_words f l) ≡ l
line_named-words One (Tick m ended) ranged = tick_same _ m _ ended (digits_value-decimal m ranged.0) (addresses_named ended ranged.1.1)
line_named-words Two (Tick m ended) ranged = tick_same _ m _ ended (digits_value-decimal m ranged.0) (addresses_named ended ranged.1.1)
line_named-words One (Frame port index v None) ranged =
    ap (λ b. cond b (Tick (digits_value 10 (decimal index)) (map (hex_after 0) (verdict_words v))) (Frame (digits_value 10 (decimal port)) (digits_value 10 (decimal index)) (verdict_named (verdict_words v)) None)) (number_no_tick port (omega arith))
    ∙ frame_same _ port _ index _ v None None (digits_value-decimal port (omega arith)) (digits_value-decimal index ranged.2) (verdict_named-words v ranged.3) refl
line_named-words One (Frame port index v (Some t)) ranged = absurd ranged.4
line_named-words Two (Frame port index v None) ranged = absurd ranged.4
line_named-words Two (Frame port index v (Some t)) ranged =
    ap (λ b. cond b (Tick (digits_value 10 (decimal t)) (map (hex_after 0) (decimal index ∷ verdict_words v))) (after_clock (digits_value 10 (decimal t)) (decimal port) (decimal index ∷ verdict_words v))) (number_no_tick port (omega arith))
    ∙ frame_same _ port _ index _ v _ (Some t) (digits_value-decimal port (omega arith)) (digits_value-decimal index ranged.2) (verdict_named-words v ranged.3) (ap Some (digits_value-decimal t ranged.4))

-- ---- a line is named by its text, whatever follows

has_words : (f : Format) (l : Line) → IsRangedLine f l → (w : List ℕ) × (more : List (List ℕ)) × (line_words f l ≡ w ∷ more)
has_words One (Tick m ended) ranged = (_, _, refl)
has_words One (Frame port index v clock) ranged = (_, _, refl)
has_words Two (Tick m ended) ranged = (_, _, refl)
has_words Two (Frame port index v clock) ranged = (_, _, refl)

texts_once : (ws xs : List (List ℕ)) (w x : List ℕ) (more less : List (List ℕ)) (r s : List ℕ) → ws ≡ w ∷ more → xs ≡ x ∷ less → AreWords ws → AreWords xs → text_of ws ++ r ≡ text_of xs ++ s → (ws ≡ xs) × (r ≡ s)
texts_once [] xs w x more less r s first second ws_are xs_are e = absurd (cc)
texts_once (v ∷ ws) [] w x more less r s first second ws_are xs_are e = absurd (cc)
texts_once (v ∷ ws) (u ∷ xs) w x more less r s first second ws_are xs_are e = text_once v u ws xs r s ws_are xs_are e

pub line_once : (f : Format) (l m : Line) (r s : List ℕ) → IsRangedLine f l → IsRangedLine f m → line_text f l ++ r ≡ line_text f m ++ s → (l ≡ m) × (r ≡ s)
line_once f l m r s l_is m_is e =
    let some = has_words f l l_is in
    let other = has_words f m m_is in
    let both = texts_once (line_words f l) (line_words f m) some.0 other.0 some.1 other.1 r s some.2 other.2 (line_inside f l l_is) (line_inside f m m_is)
    (ap (λ t. t ++ r) (sym (line_is_words f l)) ∙ e ∙ ap (λ t. t ++ s) (line_is_words f m)) in
    (sym (line_named-words f l l_is) ∙ ap (line_named f) both.0 ∙ line_named-words f m m_is, both.1)

pub lines_are_unique : LinesAreUnique
lines_are_unique f text l m one other = (line_once f l m [] [] one.ranged other.ranged (ap (λ t. t ++ []) (sym one.spelled ∙ other.spelled))).0
