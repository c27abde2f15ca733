-- Laws of pieces: one behind another they make a whole, and what each of them is follows from the state before it alone.
use Rattle.std.specs.Prelude.{◌≡◌, ◌↔◌, ℕ, List, [], ◌++◌, length}
use Rattle.fab_config.specs.Settings.{Settings}
use Rattle.pcap_file.specs.declared.Record.{Record}
use Rattle.fab_policy.specs.Growing.{AllFrom, with_more}
use Rattle.fab_policy.specs.Journal.{Journal, now}
use Rattle.fab_policy.specs.Legal.{HoldsFrames, Legal, Run}
use Rattle.fab_policy.specs.Outputs.{State, state_of}
use Rattle.fab_policy.specs.State.{now_of}
use Rattle.fab_policy.specs.Text.{text, egress}
use Rattle.fab_states.specs.Runs.{RunFrom, counts_of, none_of}
use Rattle.fab_states.specs.States.{LegalFrom, state_on}
use Rattle.fab_states.specs.Written.{clock_on, piece_records, piece_text}

-- ---- states

-- A journal is a piece from the beginning.
abbrev pub StatesAreOn : Type 0
StatesAreOn = (c : Settings) (J : Journal) → state_of c J ≡ state_on c (state_of c []) J

-- The state after a journal and a piece is the state after the piece, from that of the journal.
abbrev pub StatesFollow : Type 0
StatesFollow = (c : Settings) (I K : Journal) → state_of c (K ++ I) ≡ state_on c (state_of c I) K

-- The same of two pieces.
abbrev pub StatesJoin : Type 0
StatesJoin = (c : Settings) (S : State) (I K : Journal) → state_on c S (K ++ I) ≡ state_on c (state_on c S I) K

-- ---- legal

-- A legal journal is cut anywhere into a legal one and a piece that is legal from its state, and these make a legal one.
abbrev pub LegalIsCut : Type 0
LegalIsCut = (c : Settings) (I K : Journal) → Legal c (K ++ I) ↔ (Legal c I × LegalFrom c (state_of c I) K)

-- The same of two pieces.
abbrev pub LegalPiecesJoin : Type 0
LegalPiecesJoin = (c : Settings) (S : State) (I K : Journal) → LegalFrom c S (K ++ I) ↔ (LegalFrom c S I × LegalFrom c (state_on c S I) K)

-- ---- text and captures

-- The text of the whole is that of the journal with the lines of the piece behind it, byte by byte.
abbrev pub TextsJoin : Type 0
TextsJoin = (I K : Journal) → text (K ++ I) ≡ text I ++ piece_text (now I) K

-- The clock after a piece is that of the state after it.
abbrev pub ClocksAgree : Type 0
ClocksAgree = (c : Settings) (S : State) (K : Journal) → now_of (state_on c S K).tables ≡ clock_on (now_of S.tables) K

-- A capture of the whole is that of the journal with the records of the piece behind it.
abbrev pub CapturesJoin : Type 0
CapturesJoin = (c : Settings) (n p : ℕ) (I K : Journal) → egress c n p (K ++ I) ≡ egress c n p I ++ piece_records c n p (state_of c I) K

-- ---- runs

-- The frames of a run from a state aren't of windows before its clock.
abbrev pub RunsAreLater : Type 0
RunsAreLater = (c : Settings) (S : State) (firsts : List ℕ) (ins : List (List Record)) (K : Journal) → RunFrom c S firsts ins K → AllFrom c (now_of S.tables) ins

-- A run is one of a piece from the beginning.
abbrev pub RunsAreFrom : Type 0
RunsAreFrom = (c : Settings) (ins : List (List Record)) (J : Journal) → Run c ins J → RunFrom c (state_of c []) (none_of ins) ins J

-- A run, and a run of a piece from its state and its counts, make one run over the records of both.
abbrev pub RunsJoin : Type 0
RunsJoin = (c : Settings) (ins more : List (List Record)) (I K : Journal) → Run c ins I → RunFrom c (state_of c I) (counts_of ins) more K → Run c (with_more ins more) (K ++ I)

-- What a run has behind a journal that holds the first records of each port is a run of a piece from there, wherever it is cut.
abbrev pub RunsLeavePieces : Type 0
RunsLeavePieces =
    (c : Settings) (ins more : List (List Record)) (I K : Journal) → length more ≡ length ins → HoldsFrames I 1 ins → Run c (with_more ins more) (K ++ I)
    → RunFrom c (state_of c I) (counts_of ins) more K
