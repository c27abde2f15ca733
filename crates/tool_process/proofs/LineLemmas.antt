-- A line on standard error has no hidden sign.
use Rattle.std.proofs.Common.{◌≡◌, ℕ, zero, suc, ◌==◌, ◌/◌, ◌%◌, ◌<◌, true, false, nat_lt, Bool, ◌≤◌, List, [], ◌∷◌, ◌++◌, codes, decimal, flat_map, refl, ap, ◌∙◌, arith}
use Rattle.std.proofs.lemmas.Bool.{and_parts, and_from, agree_below_at, cond_both, le-ltb, leb-true}
use Rattle.std.proofs.lemmas.List.{append-nil}
use Rattle.std.proofs.lemmas.Str.{NoCharPasses-append, NoCharPasses-nil, encode_ascii}
use Rattle.std.specs.Char.{encode_utf8}
use Rattle.std.specs.Fmt.{digits, digits_onto, digit_glyph}
use Rattle.std.specs.List.{list_all}
use Rattle.std.specs.Str.{NoCharPasses, NonePass, chars, encode_utf8_all}
use Rattle.tool_process.specs.Line.{is_among, is_hidden, number_of, sign_of, shown, said, line_text, why_text}
use Rattle.tool_process.specs.declared.line.Line.{Line}
use Rattle.tool_process.specs.declared.line.Line.TheVariants as lines
use Rattle.tool_process.specs.declared.trouble.Why.{Why}
use Rattle.tool_process.specs.declared.trouble.Why.TheVariants as why

-- ---- ASCII signs with a shape

abbrev is_plain : ℕ → Bool
is_plain b = is_among 0x20 0x7e b

abbrev are_plain : List ℕ → Bool
are_plain bs = list_all is_plain bs

module _ (b : ℕ) (plain : is_plain b ≡ true) where
  parts : (0x20 ≤ b) × (b ≤ 0x7e)
  parts = let p = and_parts _ _ plain in (leb-true _ _ p.0, leb-true _ _ p.1)

  not_hidden : is_hidden b ≡ false
  not_hidden = agree_below_at is_hidden (λ c. nat_lt c 0x20) 127 b refl (omega (arith, parts.1)) ∙ le-ltb b 0x20 parts.0

  is_one_byte : encode_utf8 b ≡ b ∷ []
  is_one_byte = encode_ascii b (omega (arith, parts.1))

spelled : (bs : List ℕ) → are_plain bs ≡ true → encode_utf8_all bs ≡ bs
spelled [] e = refl
spelled (b ∷ bs) e =
    let p = and_parts (is_plain b) (are_plain bs) e in
    ap (λ l. l ++ encode_utf8_all bs) (is_one_byte b p.0) ∙ ap (λ l. b ∷ l) (spelled bs p.1)

none_hidden : (bs : List ℕ) → are_plain bs ≡ true → NonePass is_hidden bs
none_hidden [] e = tt
none_hidden (b ∷ bs) e = let p = and_parts (is_plain b) (are_plain bs) e in (not_hidden b p.0, none_hidden bs p.1)

plain : (bs : List ℕ) → are_plain bs ≡ true → NoCharPasses is_hidden bs
plain bs e = (bs, spelled bs e, none_hidden bs e)

plain-append : (xs ys : List ℕ) → are_plain xs ≡ true → are_plain ys ≡ true → are_plain (xs ++ ys) ≡ true
plain-append [] ys e h = h
plain-append (x ∷ xs) ys e h = let p = and_parts (is_plain x) (are_plain xs) e in and_from _ _ p.0 (plain-append xs ys p.1 h)

-- ---- numbers

plain_digit : (d : ℕ) → d < 16 → is_plain (digit_glyph false d) ≡ true
plain_digit d less = agree_below_at (λ c. is_plain (digit_glyph false c)) (λ c. true) 16 d refl less

plain_onto : (base : ℕ) → ((n : ℕ) → n % base < 16) → (k n : ℕ) (acc : List ℕ) → are_plain acc ≡ true → are_plain (digits_onto k base false n acc) ≡ true
plain_onto base less zero n acc e = e
plain_onto base less (suc k) n acc e =
    let more = and_from _ _ (plain_digit (n % base) (less n)) e in
    cond_both (n / base == 0) (digit_glyph false (n % base) ∷ acc) (digits_onto k base false (n / base) (digit_glyph false (n % base) ∷ acc)) (λ l. are_plain l ≡ true)
    (λ _. more)
    (λ _. plain_onto base less k (n / base) (digit_glyph false (n % base) ∷ acc) more)

plain_hex : (n : ℕ) → are_plain (digits 16 false n) ≡ true
unfolding digits
plain_hex n = plain_onto 16 (λ m. omega arith) 64 n [] refl

plain_decimal : (n : ℕ) → are_plain (decimal n) ≡ true
unfolding digits
plain_decimal n = plain_onto 10 (λ m. omega arith) 64 n [] refl

plain_number : (c : ℕ) → are_plain (number_of c) ≡ true
plain_number c =
    cond_both (nat_lt c 256) (codes "\\x" ++ digits 16 false (c / 16) ++ digits 16 false (c % 16)) (codes "\\u{" ++ digits 16 false c ++ codes "}") (λ l. are_plain l ≡ true)
    (λ _. plain-append (digits 16 false (c / 16)) (digits 16 false (c % 16)) (plain_hex (c / 16)) (plain_hex (c % 16)))
    (λ _. plain-append (digits 16 false c) (codes "}") (plain_hex c) refl)

-- ---- names

sign_passes : (c : ℕ) → NoCharPasses is_hidden (sign_of c)
sign_passes c =
    cond_both (is_hidden c) (number_of c) (encode_utf8 c) (λ l. NoCharPasses is_hidden l)
    (λ _. plain (number_of c) (plain_number c))
    (λ seen. (c ∷ [], append-nil (encode_utf8 c), (seen, tt)))

signs_pass : (cs : List ℕ) → NoCharPasses is_hidden (flat_map sign_of cs)
signs_pass [] = NoCharPasses-nil is_hidden
signs_pass (c ∷ cs) = NoCharPasses-append is_hidden (sign_of c) (flat_map sign_of cs) (sign_passes c) (signs_pass cs)

name_passes : (name : List ℕ) → NoCharPasses is_hidden (shown name)
name_passes name = signs_pass (chars name)

-- ---- lines

named : (name rest : List ℕ) → NoCharPasses is_hidden rest → NoCharPasses is_hidden (shown name ++ rest)
named name rest passes = NoCharPasses-append is_hidden (shown name) rest (name_passes name) passes

behind : (text rest : List ℕ) → are_plain text ≡ true → NoCharPasses is_hidden rest → NoCharPasses is_hidden (text ++ rest)
behind text rest e passes = NoCharPasses-append is_hidden text rest (plain text e) passes

why_passes : (w : Why) → are_plain (why_text w) ≡ true
why_passes why.Missing = refl
why_passes why.Denied = refl
why_passes why.Folder = refl
why_passes why.Unopened = refl
why_passes why.Unread = refl
why_passes why.Unwritten = refl

said_passes : (line : Line) → NoCharPasses is_hidden (said line)
said_passes lines.NoCommand = plain (codes "no command; fcoe_tool --help lists them") refl
said_passes (lines.Unknown word) = named word.now (codes ": no command; fcoe_tool --help lists them") (plain (codes ": no command; fcoe_tool --help lists them") refl)
said_passes (lines.Meant word near) =
    named word.now (codes ": no command; " ++ (shown near.now ++ codes "?"))
    (behind (codes ": no command; ") (shown near.now ++ codes "?") refl (named near.now (codes "?") (plain (codes "?") refl)))
said_passes (lines.Twice name) = named name.now (codes " is named twice") (plain (codes " is named twice") refl)
said_passes (lines.Ports count) =
    plain (decimal count ++ codes " ports, 64 at most") (plain-append (decimal count) (codes " ports, 64 at most") (plain_decimal count) refl)
said_passes (lines.OtherWords word) =
    named word.now (codes ": other words are wanted; see fcoe_tool --help") (plain (codes ": other words are wanted; see fcoe_tool --help") refl)
said_passes (lines.OneFile one other) =
    NoCharPasses-append is_hidden (codes "two names of one file: " ++ shown one.now) (codes ", " ++ shown other.now)
    (behind (codes "two names of one file: ") (shown one.now) refl (name_passes one.now))
    (behind (codes ", ") (shown other.now) refl (name_passes other.now))
said_passes (lines.Printed name) =
    named name.now (codes ": the standard output leads to it; nothing was done") (plain (codes ": the standard output leads to it; nothing was done") refl)
said_passes (lines.Piped name) =
    named name.now (codes ": that is the standard output, where the line goes") (plain (codes ": that is the standard output, where the line goes") refl)
said_passes (lines.Trouble name w) = named name.now (codes ": " ++ why_text w) (plain (codes ": " ++ why_text w) (why_passes w))

pub line_passes : (line : Line) → NoCharPasses is_hidden (line_text line)
line_passes line = behind (codes "fcoe_tool: ") (said line) refl (said_passes line)
