-- What a line on standard error says, and what of a name it shows.
use Rattle.std.specs.Prelude.{ℕ, ◌/◌, ◌%◌, Bool, false, nat_lt, nat_le, ◌&&◌, ◌||◌, if◌then◌else◌, List, ◌++◌, codes, decimal, flat_map}
use Rattle.std.specs.Str.{chars}
use Rattle.std.specs.Char.{encode_utf8}
use Rattle.std.specs.Fmt.{digits}
use Rattle.tool_process.specs.declared.trouble.Why.{Why}
use Rattle.tool_process.specs.declared.trouble.Why.TheVariants as why
use Rattle.tool_process.specs.declared.line.Line.{Line}
use Rattle.tool_process.specs.declared.line.Line.TheVariants as lines

-- ---- names

-- from one sign to another, both included
abbrev pub is_among : ℕ → ℕ → ℕ → Bool
is_among low high c = nat_le low c && nat_le c high

-- The signs that a terminal obeys (C0, DEL and C1), and those without a shape of their own (Unicode: soft hyphens, joiners, marks of
-- direction, breaks of lines and paragraphs, tags).
abbrev pub is_hidden : ℕ → Bool
is_hidden c =
    nat_lt c 0x20 || is_among 0x7f 0x9f c || is_among 0xad 0xad c || is_among 0x61c 0x61c c || is_among 0x180e 0x180e c || is_among 0x200b 0x200f c
    || is_among 0x2028 0x202e c || is_among 0x2060 0x206f c || is_among 0xfeff 0xfeff c || is_among 0xfff9 0xfffb c || is_among 0xe0000 0xe0fff c

-- a sign by its number, in hexadecimal digits: `\x1b`, `\u{202e}`
abbrev pub number_of : ℕ → List ℕ
number_of c =
    if nat_lt c 256 then codes "\\x" ++ digits 16 false (c / 16) ++ digits 16 false (c % 16) else codes "\\u{" ++ digits 16 false c ++ codes "}"

abbrev pub sign_of : ℕ → List ℕ
sign_of c = if is_hidden c then number_of c else encode_utf8 c

-- a name, whose hidden signs stand by their numbers
abbrev pub shown : List ℕ → List ℕ
shown name = flat_map sign_of (chars name)

-- ---- lines

abbrev pub why_text : Why → List ℕ
why_text why.Missing = codes "no such file or folder"
why_text why.Denied = codes "permission denied"
why_text why.Folder = codes "a folder stands where a file should, or a file where a folder should"
why_text why.Unopened = codes "it can't be opened"
why_text why.Unread = codes "it can't be read"
why_text why.Unwritten = codes "it can't be written"

-- behind the program's name
abbrev pub said : Line → List ℕ
said lines.NoCommand = codes "no command; fcoe_tool --help lists them"
said (lines.Unknown word) = shown word.now ++ codes ": no command; fcoe_tool --help lists them"
said (lines.Meant word near) = shown word.now ++ (codes ": no command; " ++ (shown near.now ++ codes "?"))
said (lines.Twice name) = shown name.now ++ codes " is named twice"
said (lines.Ports count) = decimal count ++ codes " ports, 64 at most"
said (lines.OtherWords word) = shown word.now ++ codes ": other words are wanted; see fcoe_tool --help"
said (lines.OneFile one other) = codes "two names of one file: " ++ shown one.now ++ (codes ", " ++ shown other.now)
said (lines.Printed name) = shown name.now ++ codes ": the standard output leads to it; nothing was done"
said (lines.Piped name) = shown name.now ++ codes ": that is the standard output, where the line goes"
said (lines.Trouble name why) = shown name.now ++ (codes ": " ++ why_text why)

abbrev pub line_text : Line → List ℕ
line_text line = codes "fcoe_tool: " ++ said line
