-- The command that words are.
use Rattle.std.specs.Prelude.{ℕ, ◌+◌, ◌-◌, ◌*◌, ◌/◌, ◌%◌, ◌^◌, ◌<◌, Bool, true, not, ◌==◌, nat_lt, nat_le, ◌&&◌, if◌then◌else◌, IsTrue, List, [], ◌∷◌, length, map, drop, Option, Some, None, option_map, option_and_then, codes, decimal, String}
use Rattle.std.specs.List.{list_any}
use Rattle.std.specs.Str.{bytes_eq}
use Rattle.std.specs.Str.Parse.{digits_value}
use Rattle.std.specs.String.{string_bytes}
use Rattle.std.specs.declared.alloc.Global.{Global}
use Rattle.fab_base.specs.Places.{name_at}
use Rattle.fab_base.specs.Seen.{Seen}
use Rattle.fab_config.specs.Values.{octets_of, name}
use Rattle.fab_base.specs.Counting.{counting}
use Rattle.enode_core.specs.declared.node.Identity.{Identity}
use Rattle.side_runs.specs.Sides as sides
use Rattle.fabric_tool.specs.declared.command.Form.{Form}
use Rattle.fabric_tool.specs.declared.command.Form.TheVariants as forms
use Rattle.fabric_tool.specs.declared.command.Width.{Width}
use Rattle.fabric_tool.specs.declared.command.Width.TheVariants as widths

-- `run CONFIG JOURNAL IN OUT [IN OUT ..]`, the same of `replay`, and of `show` with no outputs: the names of the configuration, of the journal, and of the captures of each port
pub record RunNames : Type 0 where
  pub config : List ℕ
  pub journal : List ℕ
  pub ins : List (List ℕ)
  pub outs : List (List ℕ)

-- `convert IN OUT` and `migrate OLD NEW`: the names of the file that is read and of the one that is written
pub record PairNames : Type 0 where
  pub from : List ℕ
  pub to : List ℕ

-- `make NUMBER CONFIG IN1 .. IN8`: the number, and the names of the nine files, in their order
pub record MakeNames : Type 0 where
  pub number : ℕ
  pub files : List (List ℕ)

-- `snoop CONFIG IN OUT IN OUT [IN OUT ..]`: the names of the configuration, and of the captures of each port
pub record SnoopNames : Type 0 where
  pub config : List ℕ
  pub ins : List (List ℕ)
  pub outs : List (List ℕ)

-- `enode START MAC PORTNAME NODENAME IN OUT`: when a node starts, who it is, and the names of the capture that its port receives and
-- of the one of what it sends
pub record EnodeNames : Type 0 where
  pub start : ℕ
  pub own : Identity
  pub from : List ℕ
  pub to : List ℕ

-- `live CONFIG JOURNAL STREAM IN OUT [IN OUT ..]`: the names of the configuration, of the journal, of the stream, and of the captures of
-- each port, of what comes and of what is sent
pub record LiveWords : Type 0 where
  pub config : List ℕ
  pub journal : List ℕ
  pub stream : List ℕ
  pub ins : List (List ℕ)
  pub outs : List (List ℕ)

-- a command with its names; `--help` and `--version` have none
pub data Command : Type 0 where
  Run : (names : RunNames) → Command
  Replay : (names : RunNames) → Command
  Show : (names : RunNames) → Command
  Convert : (names : PairNames) → Command
  Migrate : (names : PairNames) → Command
  Make : (names : MakeNames) → Command
  Snoop : (names : SnoopNames) → Command
  Enode : (names : EnodeNames) → Command
  Live : (names : LiveWords) → Command
  Help : Command
  Version : Command

-- the words from a place on
abbrev pub names_from : ℕ → List (String Global) → List (List ℕ)
names_from place words = map (λ w. string_bytes w) (drop place words)

-- no name is empty, and none is used twice
abbrev pub are_names : List (List ℕ) → Bool
are_names [] = true
are_names (n ∷ names) = nat_lt 0 (length n) && not (list_any (λ m. bytes_eq n m) names) && are_names names

-- 1 to 64 pairs of names behind the first three words
abbrev pub has_pairs : List (String Global) → Bool
has_pairs words = nat_le 5 (length words) && nat_le (length words) 131 && length words % 2 == 1

abbrev pub are_pairs : List (String Global) → Bool
are_pairs words = has_pairs words && are_names (names_from 1 words)

-- the same, of which this is the first word
abbrev pub is_over : List ℕ → List (String Global) → Bool
is_over word words = are_pairs words && bytes_eq (name_at words 0) word

-- 1 to 64 names behind the first three words
abbrev pub are_singles : List (String Global) → Bool
are_singles words = nat_le 4 (length words) && nat_le (length words) 67 && are_names (names_from 1 words)

-- the same, of which this is the first word
abbrev pub is_over_singles : List ℕ → List (String Global) → Bool
is_over_singles word words = are_singles words && bytes_eq (name_at words 0) word

-- so many names for each port
abbrev pub are_ports : Width → List (String Global) → Bool
are_ports widths.One words = are_singles words
are_ports widths.Two words = are_pairs words

-- two names behind this word
abbrev pub is_pair : List ℕ → List (String Global) → Bool
is_pair word words = length words == 3 && bytes_eq (name_at words 0) word && are_names (names_from 1 words)

-- the number below 2 ^ 64 whose decimal text a word is, or none
abbrev pub number_of : List ℕ → Option ℕ
number_of word = let n = digits_value 10 word in if bytes_eq word (decimal n) && nat_lt n (2 ^ 64) then Some n else None

-- `make`, a word, and nine names; the word must be a number
abbrev pub is_make : List (String Global) → Bool
is_make words = length words == 11 && bytes_eq (name_at words 0) (codes "make") && are_names (names_from 2 words)

abbrev pub make_form : List (String Global) → Option Form
make_form words = option_map (λ number. forms.Make number) (number_of (name_at words 1))

-- 2 to 64 pairs of names behind the first two words
abbrev pub has_sides : List (String Global) → Bool
has_sides words = nat_le 6 (length words) && nat_le (length words) 130 && length words % 2 == 0

abbrev pub is_snoop : List (String Global) → Bool
is_snoop words = has_sides words && are_names (names_from 1 words) && bytes_eq (name_at words 0) (codes "snoop")

-- the moment that a word is, no later than the last millisecond that a capture can name, or none
abbrev pub start_of : List ℕ → Option ℕ
start_of word = option_and_then (λ n. if nat_le n 4294967295999 then Some n else None) (number_of word)

-- `enode`, four words, and the names of two files; the words must be a moment and a node
abbrev pub is_enode : List (String Global) → Bool
is_enode words = length words == 7 && bytes_eq (name_at words 0) (codes "enode") && are_names (names_from 5 words)

-- a MAC of any six bytes, and the names of a port and of a node
abbrev pub own_of : List (String Global) → Option Identity
own_of words =
    option_and_then (λ mac. option_and_then (λ port. option_map (λ node. record { mac = mac; name = port; node = node }) (name (name_at words 4))) (name (name_at words 3))) (octets_of 6 (name_at words 2))

abbrev pub enode_form : List (String Global) → Option Form
enode_form words = option_and_then (λ start. option_map (λ own. forms.Enode start own) (own_of words)) (start_of (name_at words 1))

-- 1 to 64 pairs of names behind the first four words
abbrev pub has_both : List (String Global) → Bool
has_both words = nat_le 6 (length words) && nat_le (length words) 132 && length words % 2 == 0

abbrev pub is_live : List (String Global) → Bool
is_live words = has_both words && are_names (names_from 1 words) && bytes_eq (name_at words 0) (codes "live")

-- this word alone
abbrev pub is_word : List ℕ → List (String Global) → Bool
is_word word words = length words == 1 && bytes_eq (name_at words 0) word

-- the form of words, or none
abbrev pub form_of : List (String Global) → Option Form
form_of words =
    if is_over (codes "run") words then Some forms.Run
    else if is_over (codes "replay") words then Some forms.Replay
    else if is_over_singles (codes "show") words then Some forms.Show
    else if is_pair (codes "convert") words then Some forms.Convert
    else if is_pair (codes "migrate") words then Some forms.Migrate
    else if is_make words then make_form words
    else if is_snoop words then Some forms.Snoop
    else if is_enode words then enode_form words
    else if is_live words then Some forms.Live
    else if is_word (codes "--help") words then Some forms.Help
    else if is_word (codes "--version") words then Some forms.Version
    else None

abbrev pub port_count : List (String Global) → ℕ
port_count words = (length words - 3) / 2

-- the input and the output of a port, which is counted from 0
abbrev pub input_at : List (String Global) → ℕ → List ℕ
input_at words port = name_at words (2 * port + 3)

abbrev pub output_at : List (String Global) → ℕ → List ℕ
output_at words port = name_at words (2 * port + 4)

abbrev pub run_of : List (String Global) → RunNames
run_of words = record {
  config = name_at words 1;
  journal = name_at words 2;
  ins = map (input_at words) (counting 0 (port_count words));
  outs = map (output_at words) (counting 0 (port_count words));
}

-- the same by how many names a port has
abbrev pub count_of : Width → List (String Global) → ℕ
count_of widths.One words = length words - 3
count_of widths.Two words = port_count words

abbrev pub place_of : Width → ℕ → ℕ
place_of widths.One port = port + 3
place_of widths.Two port = 2 * port + 3

abbrev pub input_of : Width → List (String Global) → ℕ → List ℕ
input_of width words port = name_at words (place_of width port)

abbrev pub ins_of : Width → List (String Global) → List (List ℕ)
ins_of width words = map (input_of width words) (counting 0 (count_of width words))

abbrev pub show_of : List (String Global) → RunNames
show_of words = record { config = name_at words 1; journal = name_at words 2; ins = ins_of widths.One words; outs = [] }

-- the names of `show` and of `replay`
abbrev pub names_of : Width → List (String Global) → RunNames
names_of widths.One words = show_of words
names_of widths.Two words = run_of words

abbrev pub pair_of : List (String Global) → PairNames
pair_of words = record { from = name_at words 1; to = name_at words 2 }

-- a file of a load, which is counted from 0
abbrev pub file_at : List (String Global) → ℕ → List ℕ
file_at words place = name_at words (place + 2)

abbrev pub files_of : List (String Global) → List (List ℕ)
files_of words = map (file_at words) (counting 0 9)

abbrev pub make_of : ℕ → List (String Global) → MakeNames
make_of number words = record { number = number; files = files_of words }

abbrev pub snoop_of : List (String Global) → SnoopNames
snoop_of words = record { config = name_at words 1; ins = sides.ins_of (drop 2 words); outs = sides.outs_of (drop 2 words) }

abbrev pub enode_of : ℕ → Identity → List (String Global) → EnodeNames
enode_of start own words = record { start = start; own = own; from = name_at words 5; to = name_at words 6 }

-- how many ports a forwarder that runs has, and the captures of a port, which is counted from 0: of what comes, and of what is sent
abbrev pub live_count : List (String Global) → ℕ
live_count words = (length words - 4) / 2

abbrev pub came_at : List (String Global) → ℕ → List ℕ
came_at words port = name_at words (2 * port + 4)

abbrev pub sent_at : List (String Global) → ℕ → List ℕ
sent_at words port = name_at words (2 * port + 5)

abbrev pub live_of : List (String Global) → LiveWords
live_of words = record {
  config = name_at words 1;
  journal = name_at words 2;
  stream = name_at words 3;
  ins = map (came_at words) (counting 0 (live_count words));
  outs = map (sent_at words) (counting 0 (live_count words));
}

-- the names of both captures of each port, one port after the other
abbrev pub by_port : {A : Type 0} → List A → List A → List A
by_port (x ∷ xs) (y ∷ ys) = x ∷ y ∷ by_port xs ys
by_port xs ys = []

-- the command that words of a form are
abbrev pub named : List (String Global) → Form → Command
named words forms.Run = Run (run_of words)
named words forms.Replay = Replay (run_of words)
named words forms.Show = Show (show_of words)
named words forms.Convert = Convert (pair_of words)
named words forms.Migrate = Migrate (pair_of words)
named words (forms.Make number) = Make (make_of number words)
named words forms.Snoop = Snoop (snoop_of words)
named words (forms.Enode start own) = Enode (enode_of start own words)
named words forms.Live = Live (live_of words)
named words forms.Help = Help
named words forms.Version = Version

-- the command that words are, or none
unfoldable pub command : List (String Global) → Option Command
command words = option_map (named words) (form_of words)

-- every word but the first is known
abbrev pub AllKnown : Seen → List (String Global) → Type 0
AllKnown d words = (i : ℕ) → 0 < i → i < length words → IsTrue (d.knows (name_at words i))
