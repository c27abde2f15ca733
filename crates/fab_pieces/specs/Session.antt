-- A whole session in pieces, each of which is checked alone from the seam before it.
use Rattle.std.specs.Prelude.{◌≡◌, ℕ, zero, suc, ◌<◌, ◌≤◌, ◌^◌, List, [], ◌∷◌, ◌++◌, drop, length, map}
use Rattle.fab_config.specs.Settings.{Settings}
use Rattle.pcap_file.specs.Capture.{head_bytes}
use Rattle.pcap_file.specs.declared.Record.{Record}
use Rattle.fab_policy.specs.Growing.{with_more}
use Rattle.fab_policy.specs.Journal.{Journal}
use Rattle.fab_policy.specs.Legal.{Run, of_port}
use Rattle.fab_policy.specs.Outputs.{State, state_of}
use Rattle.fab_policy.specs.Ranged.{IsRanged}
use Rattle.fab_policy.specs.State.{now_of}
use Rattle.fab_policy.specs.Text.{egress, head_line, text}
use Rattle.fab_pieces.specs.Seam.{Seam}
use Rattle.fab_states.specs.Runs.{RunFrom, counts_of, counts_on}
use Rattle.fab_states.specs.States.{state_on}
use Rattle.fab_states.specs.Written.{piece_records, piece_text}

-- A piece as it's recorded: its entries, and the records of each port's capture.
pub record Recorded : Type 0 where
  pub entries : Journal
  pub ins : List (List Record)

-- ---- one behind another: the newest piece is the first

abbrev pub whole : List Recorded → Journal
whole [] = []
whole (p ∷ ps) = p.entries ++ whole ps

-- no records of n ports
abbrev pub no_records : ℕ → List (List Record)
no_records zero = []
no_records (suc n) = [] ∷ no_records n

-- the records of all pieces, behind one another for each of n ports
abbrev pub all_ins : ℕ → List Recorded → List (List Record)
all_ins n [] = no_records n
all_ins n (p ∷ ps) = with_more (all_ins n ps) p.ins

-- ---- seams

-- what the fabric keeps behind pieces
abbrev pub seam_state : Settings → List Recorded → State
seam_state c [] = state_of c []
seam_state c (p ∷ ps) = state_on c (seam_state c ps) p.entries

-- the next index of each of n ports behind pieces
abbrev pub seam_nexts : ℕ → List Recorded → List ℕ
seam_nexts n [] = counts_of (no_records n)
seam_nexts n (p ∷ ps) = counts_on (seam_nexts n ps) p.ins

-- Each piece is a run from the seam before it.
abbrev pub AreRuns : Settings → ℕ → List Recorded → Type 0
AreRuns c n [] = Unit {0}
AreRuns c n (p ∷ ps) = AreRuns c n ps × RunFrom c (seam_state c ps) (seam_nexts n ps) p.ins p.entries

-- ---- files

-- the texts of the pieces behind one another, of which the first has the line of the format
abbrev pub all_text : Settings → List Recorded → List ℕ
all_text c [] = head_line
all_text c (p ∷ ps) = all_text c ps ++ piece_text (now_of (seam_state c ps).tables) p.entries

-- one head, and the records of the pieces' captures of what is sent on a port behind one another
abbrev pub all_sent : Settings → ℕ → ℕ → List Recorded → List ℕ
all_sent c n q [] = head_bytes
all_sent c n q (p ∷ ps) = all_sent c n q ps ++ piece_records c n q (seam_state c ps) p.entries

-- ---- one piece, checked alone

-- What a check of one piece has to say between two seams: the text names a run from the first, by whose records and entries the
-- second follows, and each port's capture is a head and what the piece sends there.
pub record IsBetween (c : Settings) (s t : Seam) (ins : List (List Record)) (journal : List ℕ) (found : ℕ → List ℕ) (K : Journal) : Type 0 where
  pub ranged : IsRanged K
  pub run : RunFrom c s.state s.nexts ins K
  pub lines : journal ≡ piece_text (now_of s.state.tables) K
  pub sent : (q : ℕ) → 1 ≤ q → q ≤ length ins → found q ≡ head_bytes ++ piece_records c (length ins) q s.state K
  pub state : state_on c s.state K ≡ t.state
  pub nexts : counts_on s.nexts ins ≡ t.nexts

-- ---- pieces that were each checked alone

-- A piece with its files and the seams on both sides.
pub record Checked : Type 0 where
  pub piece : Recorded
  pub journal : List ℕ
  pub found : ℕ → List ℕ
  pub from : Seam
  pub to : Seam

abbrev pub pieces_of : List Checked → List Recorded
pieces_of xs = map (λ x. x.piece) xs

-- a seam is the one behind these pieces, or the first
abbrev pub IsBehind : Settings → ℕ → List Checked → Seam → Type 0
IsBehind c n [] s = (s.state ≡ state_of c []) × (s.nexts ≡ counts_of (no_records n))
IsBehind c n (x ∷ xs) s = (s.state ≡ x.to.state) × (s.nexts ≡ x.to.nexts)

-- each piece of n ports was checked from the seam behind those before it to the next
abbrev pub AreChecked : Settings → ℕ → List Checked → Type 0
AreChecked c n [] = Unit {0}
AreChecked c n (x ∷ xs) =
    AreChecked c n xs × IsBehind c n xs x.from × (length x.piece.ins ≡ n) × IsBetween c x.from x.to x.piece.ins x.journal x.found x.piece.entries

-- the journals behind one another, and the captures of a port behind one another, each without its head
abbrev pub all_journals : List Checked → List ℕ
all_journals [] = []
all_journals (x ∷ xs) = all_journals xs ++ x.journal

abbrev pub all_found : ℕ → List Checked → List ℕ
all_found q [] = []
all_found q (x ∷ xs) = all_found q xs ++ drop (length head_bytes) (x.found q)

-- Pieces that were each checked from seam to seam make one run over all records; the line of the format and their journals are its
-- text, and a head and their captures without heads are its captures.
pub record IsChecked (c : Settings) (n : ℕ) (xs : List Checked) : Type 0 where
  pub run : Run c (all_ins n (pieces_of xs)) (whole (pieces_of xs))
  pub lines : text (whole (pieces_of xs)) ≡ head_line ++ all_journals xs
  pub sent : (q : ℕ) → 1 ≤ q → q ≤ n → egress c n q (whole (pieces_of xs)) ≡ head_bytes ++ all_found q xs

-- ---- the laws

-- A text of a piece from a clock, and the frames of each port, name one piece.
abbrev pub TextNamesPiece : Type 0
TextNamesPiece = (t : ℕ) (K L : Journal) → t < 2 ^ 64 → IsRanged K → IsRanged L → ((p : ℕ) → of_port p K ≡ of_port p L) → piece_text t K ≡ piece_text t L → K ≡ L

-- So what is between two seams is one piece.
abbrev pub BetweenIsOne : Type 0
BetweenIsOne =
    (c : Settings) (s t u : Seam) (ins : List (List Record)) (journal : List ℕ) (found sent : ℕ → List ℕ) (K L : Journal) → now_of s.state.tables < 2 ^ 64
    → IsBetween c s t ins journal found K → IsBetween c s u ins journal sent L → K ≡ L

-- What pieces make that were each checked alone: a run over all records, whose state and next indexes are those of the last
-- seam, and whose text and captures are those of the pieces behind one another.
pub record IsSession (c : Settings) (n : ℕ) (ps : List Recorded) : Type 0 where
  pub run : Run c (all_ins n ps) (whole ps)
  pub state : state_of c (whole ps) ≡ seam_state c ps
  pub nexts : counts_of (all_ins n ps) ≡ seam_nexts n ps
  pub lines : text (whole ps) ≡ all_text c ps
  pub sent : (q : ℕ) → egress c n q (whole ps) ≡ all_sent c n q ps

abbrev pub PiecesMakeSession : Type 0
PiecesMakeSession = (c : Settings) (n : ℕ) (ps : List Recorded) → AreRuns c n ps → IsSession c n ps

-- Pieces that were each checked from seam to seam make a session.
abbrev pub CheckedMakeSession : Type 0
CheckedMakeSession = (c : Settings) (n : ℕ) (xs : List Checked) → AreChecked c n xs → IsChecked c n xs
