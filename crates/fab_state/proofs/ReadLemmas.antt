-- What a line says of its words, and words of their values.
use Rattle.std.proofs.Common.{◌≡◌, ℕ, zero, suc, ◌+◌, ◌*◌, ◌-◌, ◌/◌, ◌%◌, ◌<◌, ◌≤◌, ◌^◌, Bool, true, false, not, ◌&&◌, List, [], ◌∷◌, ◌++◌, length, take, drop, length-append, length-drop, eq-eqb, Option, Some, None, IfSome, Result, Ok, Err, unwrap_or, slice_get, get_or, nat_eq, ◌⊎◌, inl, inr, add-one, refl, sym, ap, subst, ◌∙◌, append_assoc, arith, decimal, min, length-take}
use Rattle.std.specs.List.{AllByRecursion, list_all}
use Rattle.std.proofs.Math.Seq.{take-append_seam, drop-append_seam}
use Rattle.std.proofs.lemmas.List.{take-append-drop}
use Rattle.std.proofs.lemmas.List.Folds.{list_all-append}
use Rattle.fab_base.specs.Texts.{hex, hex_bytes}
use Rattle.std.specs.Prelude.{◌==◌, MatchResult, codes}
use Rattle.std.specs.Int.{from_be_bytes, w32, w64}
use Rattle.std.specs.Str.{IsUtf8}
use Rattle.std.specs.Str.Parse.{ParsesUnsigned}
use Rattle.std.proofs.lemmas.Fmt.{IsAscii-decimal, decimal_is_IsNumeral, parse-decimal}
use Rattle.std.proofs.lemmas.Str.{IsUtf8-from_ascii}
use Rattle.hex.specs.declared.error.FromHexError.{FromHexError}
use Rattle.hex.specs.declared.error.FromHexError.TheVariants.{OutOfMemory}
use Rattle.std.specs.Int.{byte_at}
use Rattle.hex.specs.Hex.{decode_of, decode_sized}
use Rattle.hex.proofs.HexLemmas.{decode_of-encode_lower, decode_of-same, decode_sized-encode_lower}
use Rattle.fab_base.specs.Layout.{big_endian, spelled}
use Rattle.fab_base.proofs.LayoutLemmas.{big_endian-spelled, length-spelled}
use Rattle.fab_base.proofs.TextLemmas.{encode_lower-hex}
use Rattle.fab_config.proofs.HexLemmas.{eight_bytes}
use Rattle.fab_policy.specs.Text.{LINE_FEED, SPACE}
use Rattle.fab_policy.specs.Private.LineWords.{Ends, IsWord, is_inside}
use Rattle.fab_policy.proofs.WordLemmas.{and_left, and_right, cut_once}
use Rattle.fab_pieces.specs.Seam.{AreBelow, IsLong, bytes_word, may_word, rest_text, row_text}
use Rattle.fab_state.specs.Words.{EndsLine, IsLine, first_of, is_no_feed}

-- ---- where a line ends

feed_once : (l x m n : List ℕ) → list_all is_no_feed l ≡ true → list_all is_no_feed x ≡ true → EndsLine m → EndsLine n → l ++ m ≡ x ++ n → (l ≡ x) × (m ≡ n)
feed_once [] [] m n l_is x_is m_ends n_ends e = (refl, e)
feed_once [] (b ∷ x) [] n l_is x_is m_ends n_ends e = absurd (cc)
feed_once [] (b ∷ x) (c ∷ m) n l_is x_is m_ends n_ends e = let inside = and_left (is_no_feed b) (list_all is_no_feed x) x_is in absurd (let same : c ≡ b = cc in cc (ap is_no_feed same))
feed_once (b ∷ l) [] m [] l_is x_is m_ends n_ends e = absurd (cc)
feed_once (b ∷ l) [] m (c ∷ n) l_is x_is m_ends n_ends e = let inside = and_left (is_no_feed b) (list_all is_no_feed l) l_is in absurd (let same : b ≡ c = cc in cc (ap is_no_feed same))
feed_once (b ∷ l) (c ∷ x) m n l_is x_is m_ends n_ends e =
    let more = feed_once l x m n (and_right (is_no_feed b) (list_all is_no_feed l) l_is) (and_right (is_no_feed c) (list_all is_no_feed x) x_is) m_ends n_ends (let tails : l ++ m ≡ x ++ n = cc in tails) in
    let same : b ≡ c = cc in
    (let lines : l ≡ x = more.0 in cc, more.1)

word_no_feed : (w : List ℕ) → IsWord w → list_all is_no_feed w ≡ true
word_no_feed [] h = refl
word_no_feed (b ∷ w) h =
    let own = and_left (is_inside b) (list_all is_inside w) h in
    let first : is_no_feed b ≡ true = and_right (not (b == SPACE)) (not (b == LINE_FEED)) own in
    ap (λ p. p && list_all is_no_feed w) first ∙ word_no_feed w (and_right (is_inside b) (list_all is_inside w) h)

-- a line without its line feed
tail_text : List (List ℕ) → List ℕ
tail_text [] = []
tail_text (w ∷ ws) = SPACE ∷ (w ++ tail_text ws)

rest_is_tail : (ws : List (List ℕ)) → rest_text ws ≡ tail_text ws ++ LINE_FEED ∷ []
unfolding tail_text
rest_is_tail [] = refl
rest_is_tail (w ∷ ws) = ap (λ l. SPACE ∷ l) (ap (λ l. w ++ l) (rest_is_tail ws) ∙ sym (append_assoc w (tail_text ws) (LINE_FEED ∷ [])))

both_no_feed : (l m : List ℕ) → list_all is_no_feed l ≡ true → list_all is_no_feed m ≡ true → list_all is_no_feed (l ++ m) ≡ true
both_no_feed l m h g = list_all-append is_no_feed l m ∙ ap (λ p. p && list_all is_no_feed m) h ∙ g

tail_no_feed : (ws : List (List ℕ)) → AllByRecursion IsWord ws → list_all is_no_feed (tail_text ws) ≡ true
unfolding tail_text
tail_no_feed [] h = refl
tail_no_feed (w ∷ ws) h = both_no_feed w (tail_text ws) (word_no_feed w h.0) (tail_no_feed ws h.1)

-- the first line of a text ends behind the first line feed
line_is : (w : List ℕ) (ws : List (List ℕ)) (text more : List ℕ) (n : ℕ) → AllByRecursion IsWord (w ∷ ws) → text ≡ row_text (w ∷ ws) ++ more → n ≤ length text →
    list_all is_no_feed (take n text) ≡ true → EndsLine (drop n text) → n + 1 ≡ length (row_text (w ∷ ws))
line_is w ws text more n words e low inside ends =
    let body = w ++ tail_text ws in
    let whole : row_text (w ∷ ws) ≡ body ++ LINE_FEED ∷ [] = ap (λ l. w ++ l) (rest_is_tail ws) ∙ sym (append_assoc w (tail_text ws) (LINE_FEED ∷ [])) in
    let parts : take n text ++ drop n text ≡ body ++ (LINE_FEED ∷ more) = take-append-drop n text ∙ e ∙ ap (λ l. l ++ more) whole ∙ append_assoc body (LINE_FEED ∷ []) more in
    let once = feed_once (take n text) body (drop n text) (LINE_FEED ∷ more) inside (both_no_feed w (tail_text ws) (word_no_feed w words.0) (tail_no_feed ws words.1)) ends refl parts in
    let size : length (take n text) ≡ length body = ap length once.0 in
    let taken : length (take n text) ≡ min n (length text) = length-take n text in
    let all : length (row_text (w ∷ ws)) ≡ length body + 1 = ap length whole ∙ length-append body (LINE_FEED ∷ []) in
    omega (arith, size, taken, all, low)

pub line_ends : (ws : List (List ℕ)) (text more : List ℕ) (n : ℕ) → IsLine ws → text ≡ row_text ws ++ more → n ≤ length text →
    list_all is_no_feed (take n text) ≡ true → EndsLine (drop n text) → n + 1 ≡ length (row_text ws)
line_ends [] text more n h e low inside ends = absurd h
line_ends (w ∷ ws) text more n h e low inside ends = line_is w ws text more n h e low inside ends

pub cut_there : (l more text : List ℕ) (k : ℕ) → text ≡ l ++ more → k ≡ length l → (take k text ≡ l) × (drop k text ≡ more)
cut_there l more text k e same =
    (ap (λ (m : ℕ). take m text) same ∙ ap (take (length l)) e ∙ take-append_seam l more, ap (λ (m : ℕ). drop m text) same ∙ ap (drop (length l)) e ∙ drop-append_seam l more)

pub not_last : (ws : List (List ℕ)) (text more : List ℕ) (n : ℕ) → text ≡ row_text ws ++ more → n + 1 ≡ length (row_text ws) → length text ≤ n → ⊥
not_last ws text more n e at past = let all : length text ≡ length (row_text ws) + length more = ap length e ∙ length-append (row_text ws) more in omega (arith, all, at, past)

-- ---- the words of a line

pub split_is : (line w : List ℕ) (ws : List (List ℕ)) (n : ℕ) → IsWord w → line ≡ row_text (w ∷ ws) → IsWord (take n line) → Ends (drop n line) → (take n line ≡ w) × (drop n line ≡ rest_text ws)
split_is line w ws n word e inside ends = cut_once (take n line) w (drop n line) (rest_text ws) inside word ends (rest_ends ws) (take-append-drop n line ∙ e)
  where
    rest_ends : (ws : List (List ℕ)) → Ends (rest_text ws)
    rest_ends [] = refl
    rest_ends (x ∷ xs) = refl

pub rest_some : (ws : List (List ℕ)) (l : List ℕ) → l ≡ rest_text ws → length l ≡ 0 → ⊥
rest_some [] l e none = let size = ap length e in omega (arith, size, none)
rest_some (x ∷ xs) l e none = let size = ap length e in omega (arith, size, none)

pub rest_behind : (ws : List (List ℕ)) (b : ℕ) (l : List ℕ) → b ∷ l ≡ rest_text ws → l ≡ row_text ws
rest_behind [] b l e = cc
rest_behind (x ∷ xs) b l e = cc

-- what is at a place of a list, and behind it
record At (ws : List (List ℕ)) (k : ℕ) (w : List ℕ) (more : List (List ℕ)) : Type 0 where
  from : drop k ws ≡ w ∷ more
  item : slice_get ws k ≡ Some w
  next : drop (suc k) ws ≡ more
  is : IsWord w

record Past (ws : List (List ℕ)) (k : ℕ) : Type 0 where
  from : drop k ws ≡ []
  item : slice_get ws k ≡ None
  next : drop (suc k) ws ≡ []

place_of : (ws : List (List ℕ)) (k : ℕ) → AllByRecursion IsWord ws → ((w : List ℕ) × (more : List (List ℕ)) × At ws k w more) ⊎ Past ws k
place_of [] zero h = inr (record { from = refl; item = refl; next = refl })
place_of [] (suc k) h = inr (record { from = refl; item = refl; next = refl })
place_of (w ∷ ws) zero h = inl (w, ws, record { from = refl; item = refl; next = refl; is = h.0 })
place_of (w ∷ ws) (suc k) h = elim (place_of ws k h.1) [
  | inl there ↦ let at = there.2 in inl (there.0, there.1, record { from = at.from; item = at.item; next = at.next; is = at.is })
  | inr past ↦ inr (record { from = past.from; item = past.item; next = past.next })
]

pub word_step : (rest next : List ℕ) (ws : List (List ℕ)) (k : ℕ) → AllByRecursion IsWord ws → rest ≡ row_text (drop k ws) →
    ((w : List ℕ) (more : List (List ℕ)) → IsWord w → rest ≡ row_text (w ∷ more) → next ≡ row_text more) → (rest ≡ [] → next ≡ []) → next ≡ row_text (drop (suc k) ws)
word_step rest next ws k words e some none = elim (place_of ws k words) [
  | inl there ↦ let at = there.2 in some there.0 there.1 at.is (e ∙ ap row_text at.from) ∙ ap row_text (sym at.next)
  | inr past ↦ none (e ∙ ap row_text past.from) ∙ ap row_text (sym past.next)
]

pub word_found : (rest word : List ℕ) (ws : List (List ℕ)) (k : ℕ) → AllByRecursion IsWord ws → rest ≡ row_text (drop k ws) →
    ((w : List ℕ) (more : List (List ℕ)) → IsWord w → rest ≡ row_text (w ∷ more) → word ≡ w) → (rest ≡ [] → word ≡ []) → word ≡ unwrap_or (slice_get ws k) []
word_found rest word ws k words e some none = elim (place_of ws k words) [
  | inl there ↦ let at = there.2 in some there.0 there.1 at.is (e ∙ ap row_text at.from) ∙ ap (λ (o : Option (List ℕ)). unwrap_or o []) (sym at.item)
  | inr past ↦ none (e ∙ ap row_text past.from) ∙ ap (λ (o : Option (List ℕ)). unwrap_or o []) (sym past.item)
]

pub all_words : (ws : List (List ℕ)) → IsLine ws → AllByRecursion IsWord ws
all_words [] h = absurd h
all_words (w ∷ ws) h = h

-- ---- digits

bytes_below : (bs : List ℕ) → AreBelow 256 bs → (i : ℕ) → get_or bs i 0 < 256
bytes_below [] h i = omega arith
bytes_below (b ∷ bs) h zero = h.0
bytes_below (b ∷ bs) h (suc i) = bytes_below bs h.1 i

pub digits_read : (word bs : List ℕ) (n : ℕ) → AreBelow 256 bs → length bs ≡ n → word ≡ hex_bytes bs → decode_sized word n ≡ Ok bs
digits_read word bs n below size e =
    ap (λ l. decode_sized l n) (e ∙ sym (encode_lower-hex bs (bytes_below bs below))) ∙ decode_sized-encode_lower bs n size (bytes_below bs below)

small_rest : (n : ℕ) → n % 256 < 256
small_rest n = omega arith

byte_at-small : (k n : ℕ) → byte_at k n < 256
byte_at-small zero n = small_rest n
byte_at-small (suc k) n = small_rest (n / 256 ^ suc k)

pub spelled_below : (k n : ℕ) → AreBelow 256 (spelled k n)
spelled_below zero n = tt
spelled_below (suc k) n = (byte_at-small k n, spelled_below k n)

-- ---- numbers

ok_same : (v n : ℕ) → (let r : Result ℕ (Unit {0}) = Ok v in r) ≡ Ok n → v ≡ n
ok_same v n e = cc

pub parsed_is : (v n : ℕ) (text : List ℕ) → n < 2 ^ 64 → text ≡ decimal n → (let r : Result ℕ (Unit {0}) = Ok v in ParsesUnsigned 64 10 text r) → v ≡ n
parsed_is v n text small e h = ok_same v n (parse-decimal 64 n text (Ok v) small small e h)

no_error : (n : ℕ) → (let r : Result ℕ (Unit {0}) = Err tt in r) ≡ Ok n → ⊥
no_error n e = cc

pub is_parsed : (n : ℕ) (text : List ℕ) → n < 2 ^ 64 → text ≡ decimal n → (let r : Result ℕ (Unit {0}) = Err tt in ParsesUnsigned 64 10 text r) → ⊥
is_parsed n text small e h = no_error n (parse-decimal 64 n text (Err tt) small small e h)

pub decimal_is_text : (n : ℕ) → n < 2 ^ 64 → IsUtf8 (decimal n)
decimal_is_text n small = IsUtf8-from_ascii (decimal n) (IsAscii-decimal n small)

pub decimal_some : (n : ℕ) → n < 2 ^ 64 → 0 < length (decimal n)
decimal_some n small = (decimal_is_IsNumeral n small).0.0

pub none_there : (word : List ℕ) (o : Option ℕ) → IfSome o IsLong → word ≡ first_of (may_word o) → length word ≡ 0 → None ≡ o
none_there word None h e none = refl
none_there word (Some n) h e none = absurd (let some = decimal_some n h in let size : length word ≡ length (decimal n) = ap length e in omega (arith, some, size, none))

pub some_there : (word : List ℕ) (o : Option ℕ) (v : ℕ) → IfSome o IsLong → word ≡ first_of (may_word o) → (length word ≡ 0 → ⊥) → ((n : ℕ) → n < 2 ^ 64 → word ≡ decimal n → v ≡ n) → Some v ≡ o
some_there word None v h e some is = absurd (some (ap length e))
some_there word (Some n) v h e some is = ap Some (is n h e)

-- ---- values of digits

pub of_match : {X E : Type 0} (r : Result X E) (x : X) (P : X → Type 0) (Q : E → Type 0) → r ≡ Ok x → MatchResult r P Q → P x
of_match r x P Q e h = subst (λ s. MatchResult s P Q) e h

three_bytes : (a b c : ℕ) → from_be_bytes w32 (0 ∷ a ∷ b ∷ c ∷ []) ≡ big_endian (a ∷ b ∷ c ∷ [])
three_bytes a b c = omega arith

pub address_is : (bytes : List ℕ) (a n : ℕ) → a < 2 ^ 24 → bytes ≡ spelled 3 a → n ≡ from_be_bytes w32 (0 ∷ get_or bytes 0 0 ∷ get_or bytes 1 0 ∷ get_or bytes 2 0 ∷ []) → n ≡ a
address_is bytes a n small e is =
    is ∙ ap (λ l. from_be_bytes w32 (0 ∷ get_or l 0 0 ∷ get_or l 1 0 ∷ get_or l 2 0 ∷ [])) e ∙ three_bytes (byte_at 2 a) (byte_at 1 a) (byte_at 0 a) ∙ big_endian-spelled 3 a small

pub name_is : (bytes : List ℕ) (a n : ℕ) → a < 2 ^ 64 → bytes ≡ spelled 8 a → n ≡ from_be_bytes w64 bytes → n ≡ a
name_is bytes a n small e is = is ∙ ap (from_be_bytes w64) e ∙ eight_bytes (spelled 8 a) (length-spelled 8 a) ∙ big_endian-spelled 8 a small

pub bytes_read : (word bs items : List ℕ) → AreBelow 256 bs → word ≡ bytes_word bs → decode_of word ≡ Ok items → items ≡ bs
bytes_read word [] items below e is = absurd (odd (sym is ∙ ap decode_of e))
  where
    odd : Ok items ≡ decode_of (codes "-") → ⊥
    odd e = cc
bytes_read word (b ∷ bs) items below e is = decode_of-same word items (b ∷ bs) is
    (ap decode_of (e ∙ sym (encode_lower-hex (b ∷ bs) (bytes_below (b ∷ bs) below))) ∙ decode_of-encode_lower (b ∷ bs) (bytes_below (b ∷ bs) below))

pub bytes_not_read : (word bs : List ℕ) (x : FromHexError) → AreBelow 256 bs → word ≡ bytes_word bs → decode_of word ≡ Err x → [] ≡ bs
bytes_not_read word [] x below e is = refl
bytes_not_read word (b ∷ bs) x below e is =
    absurd (differ (sym is ∙ ap decode_of (e ∙ sym (encode_lower-hex (b ∷ bs) (bytes_below (b ∷ bs) below))) ∙ decode_of-encode_lower (b ∷ bs) (bytes_below (b ∷ bs) below)))
  where
    differ : Err x ≡ Ok (b ∷ bs) → ⊥
    differ e = cc

pub not_read : (word bs : List ℕ) (x : FromHexError) → (x ≡ OutOfMemory → ⊥) → (x ≡ OutOfMemory) ⊎ (decode_of word ≡ Err x) → AreBelow 256 bs → word ≡ bytes_word bs → [] ≡ bs
not_read word bs x other (inl same) below e = absurd (other same)
not_read word bs x other (inr is) below e = bytes_not_read word bs x below e is

-- ---- tests

pub not_both : (b : Bool) → b ≡ true → b ≡ false → ⊥
not_both b e f = cc

pub false_not : (n : ℕ) → false ≡ (n == 0) → n ≡ 0 → ⊥
false_not n e none = not_both (n == 0) (eq-eqb n 0 none) (sym e)

pub row_some : (ws : List (List ℕ)) → IsLine ws → 0 < length (row_text ws)
row_some [] h = absurd h
row_some (w ∷ ws) h = let size = ap length (rest_is_tail ws) ∙ length-append (tail_text ws) (LINE_FEED ∷ []) in let all = length-append w (rest_text ws) in omega (arith, size, all)

pub behind_less : (text : List ℕ) (n : ℕ) → 0 < length text → length (drop (n + 1) text) < length text
behind_less text n some = let size = length-drop (n + 1) text in omega (arith, size)
