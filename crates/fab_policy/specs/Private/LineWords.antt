-- The words of a line, as they are cut off and read.
use Rattle.std.specs.Prelude.{◌≢◌, length, slice_index, ◌≡◌, ℕ, ◌<◌, ◌≤◌, ◌^◌, Bool, true, false, ◌==◌, not, ◌&&◌, List, [], ◌∷◌, ◌++◌, map, Option, Some, None, codes, decimal}
use Rattle.std.specs.List.{list_all}
use Rattle.fab_policy.specs.Ranged.{AscendFrom, IsRangedVerdict}
use Rattle.fab_policy.specs.Text.{SPACE, LINE_FEED, then_word, address_word, code_word, rule_word}
use Rattle.fab_policy.specs.declared.line.Line.{Line}
use Rattle.fab_policy.specs.declared.line.Line.TheVariants.{Tick, Frame}
use Rattle.fab_policy.specs.declared.verdict.Rule.{Rule}
use Rattle.fab_policy.specs.declared.verdict.Verdict.{Verdict}
use Rattle.fab_policy.specs.declared.verdict.Verdict.TheVariants.{Vlans, Advertised, Granted, Rejected, Logout, AliveNode, AlivePort, NsLogin, NsLogout, Watching, Registered, Answered, Refused, Noted, Forwarded, Dropped}

-- ---- words and their places

-- a byte of a word
abbrev pub is_inside : ℕ → Bool
is_inside b = not (b == SPACE) && not (b == LINE_FEED)

-- bytes without a space and without a line feed
abbrev pub IsWord : List ℕ → Type 0
IsWord w = list_all is_inside w ≡ true

-- nothing is left, or a byte that is no part of a word
abbrev pub Ends : List ℕ → Type 0
Ends [] = Unit {0}
Ends (b ∷ l) = is_inside b ≡ false

-- a text begins with this word, and the rest is behind it
pub record IsCut (text word rest : List ℕ) : Type 0 where
  pub parts : text ≡ word ++ rest
  pub inside : IsWord word
  pub ends : Ends rest

-- a text begins with a space and this word, and the rest is behind them
pub record IsNext (text word rest : List ℕ) : Type 0 where
  pub parts : text ≡ then_word (word ++ rest)
  pub inside : IsWord word
  pub ends : Ends rest

-- a word without a sign and without a needless zero
pub record IsShortest (w : List ℕ) : Type 0 where
  pub some : 0 < length w
  pub no_sign : slice_index w 0 ≢ 43
  pub no_zero : slice_index w 0 ≡ 48 → length w ≡ 1

-- a value of which P holds, or none where P holds of no value
abbrev pub Finds : {X : Type 0} → (X → Type 0) → Option X → Type 0
Finds {X} P None = (x : X) → P x → ⊥
Finds {X} P (Some x) = P x

-- none of these rules is spelled so
abbrev pub SpellNone : List Rule → List ℕ → Type 0
SpellNone [] w = Unit {0}
SpellNone (r ∷ rules) w = (w ≡ rule_word r → ⊥) × SpellNone rules w

-- what is behind a word of a line, where these words follow
abbrev pub rest_of : List (List ℕ) → List ℕ
rest_of [] = LINE_FEED ∷ []
rest_of (w ∷ more) = then_word (w ++ rest_of more)

-- the word of the number of a rule, where it has one
abbrev pub number_words : Option ℕ → List (List ℕ)
number_words None = []
number_words (Some n) = decimal n ∷ []

-- the words of a verdict
abbrev pub verdict_words : Verdict → List (List ℕ)
verdict_words Vlans = codes "vlans" ∷ []
verdict_words Advertised = codes "advertised" ∷ []
verdict_words (Granted a) = codes "granted" ∷ address_word a ∷ []
verdict_words (Rejected reason explanation) = codes "rejected" ∷ code_word reason ∷ code_word explanation ∷ []
verdict_words (Logout a) = codes "logout" ∷ address_word a ∷ []
verdict_words AliveNode = codes "alive" ∷ []
verdict_words (AlivePort a) = codes "alive" ∷ address_word a ∷ []
verdict_words NsLogin = codes "ns-login" ∷ []
verdict_words NsLogout = codes "ns-logout" ∷ []
verdict_words (Watching function) = codes "watching" ∷ decimal function ∷ []
verdict_words Registered = codes "registered" ∷ []
verdict_words Answered = codes "answered" ∷ []
verdict_words (Refused reason explanation) = codes "refused" ∷ code_word reason ∷ code_word explanation ∷ []
verdict_words Noted = codes "noted" ∷ []
verdict_words (Forwarded port) = codes "forwarded" ∷ decimal port ∷ []
verdict_words (Dropped cause) = codes "dropped" ∷ rule_word cause.rule ∷ number_words cause.number

-- The words of a verdict begin with these, and the others are what is behind them in a line.
pub record IsSpelledAfter (ws : List (List ℕ)) (rest : List ℕ) (v : Verdict) : Type 0 where
  pub more : List (List ℕ)
  pub words : verdict_words v ≡ ws ++ more
  pub behind : rest ≡ rest_of more

-- verdicts with an address, with a number, and with two codes
abbrev pub NamesAddress : Verdict → Type 0
NamesAddress (Granted a) = Unit {0}
NamesAddress (Logout a) = Unit {0}
NamesAddress (AlivePort a) = Unit {0}
NamesAddress _ = ⊥

abbrev pub NamesNumber : Verdict → Type 0
NamesNumber (Watching function) = Unit {0}
NamesNumber (Forwarded port) = Unit {0}
NamesNumber _ = ⊥

abbrev pub NamesCodes : Verdict → Type 0
NamesCodes (Rejected reason explanation) = Unit {0}
NamesCodes (Refused reason explanation) = Unit {0}
NamesCodes _ = ⊥

-- ---- the parts of a line

-- a tick whose moment is this word, and its addresses stand behind
abbrev pub IsTickOf : List ℕ → List ℕ → Line → Type 0
IsTickOf moment rest (Tick m ended) = (m < 2 ^ 64) × AscendFrom 0 ended × (moment ≡ decimal m) × (rest ≡ rest_of (map address_word ended))
IsTickOf moment rest (Frame port index verdict clock) = ⊥

-- an entry of a frame whose port is this word, and its index and verdict stand behind
abbrev pub IsFrameOf : List ℕ → List ℕ → Option ℕ → Line → Type 0
IsFrameOf word rest clock (Tick m ended) = ⊥
IsFrameOf word rest clock (Frame port index verdict at) =
    (1 ≤ port) × (port ≤ 64) × (index < 2 ^ 64) × IsRangedVerdict verdict × (word ≡ decimal port) × (rest ≡ rest_of (decimal index ∷ verdict_words verdict)) × (at ≡ clock)
