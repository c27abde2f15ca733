-- What a run leaves in its files, and which journal the files name.
use Rattle.std.specs.Prelude.{◌≡◌, ℕ, ◌⊎◌, List, [], ◌∷◌, ◌++◌, length, map, filter, nat_lt, ◌≤◌}
use Rattle.fab_config.specs.Settings.{Settings}
use Rattle.pcap_file.specs.declared.Record.{Record}
use Rattle.fab_policy.specs.Journal.{Journal}
use Rattle.fab_base.specs.Counting.{counting}
use Rattle.fab_policy.specs.State.{Tables, LivePort, tables_of, overdue, now_of}
use Rattle.fab_policy.specs.Legal.{Legal, HasPorts, HoldsFrames, window_start}
use Rattle.fab_policy.specs.Text.{text, text1, egress}
use Rattle.fab_policy.specs.Ranged.{IsRanged}
use Rattle.fab_policy.specs.Steps.{InPool}

-- the captures that a journal sends, for ports 1 to n
abbrev pub egresses : Settings → ℕ → Journal → List (List ℕ)
egresses c n J = map (λ p. egress c n p J) (counting 1 n)

-- the records of each port in windows that start before a moment
abbrev pub before : Settings → ℕ → List (List Record) → List (List Record)
before c t ins = map (λ records. filter (λ r. nat_lt (window_start c r.moment) t) records) ins

-- A journal file and captures name a journal: its text in one of the two formats, and the frames of each port.
pub record IsNamed (ins : List (List Record)) (J : Journal) (journal : List ℕ) : Type 0 where
  pub ranged : IsRanged J
  pub ports : HasPorts (length ins) J
  pub lines : (journal ≡ text J) ⊎ (journal ≡ text1 J)
  pub frames : HoldsFrames J 1 ins

-- none of these N_Ports has the port name of p
abbrev pub IsNew : LivePort → List LivePort → Type 0
IsNew p [] = Unit {0}
IsNew p (q ∷ ports) = (p.name ≡ q.name → ⊥) × IsNew p ports

-- no two of these N_Ports have one port name
abbrev pub HaveDifferentNames : List LivePort → Type 0
HaveDifferentNames [] = Unit {0}
HaveDifferentNames (p ∷ ports) = IsNew p ports × HaveDifferentNames ports

-- What holds of the tables after each legal journal: addresses ascend in the pool and port names differ, there are at most
-- as many logins as the limit, and nobody is overdue at the clock.
pub record IsSound (c : Settings) (T : Tables) : Type 0 where
  pub ascending : InPool c T.ports
  pub names : HaveDifferentNames T.ports
  pub few : length T.ports ≤ c.limit
  pub quiet : overdue c T (now_of T) ≡ []

-- The tables of each legal journal are so.
abbrev pub LegalIsSound : Type 0
LegalIsSound = (c : Settings) (J : Journal) → Legal c J → IsSound c (tables_of c J)

-- The tables of each journal ascend.
abbrev pub TablesAscend : Type 0
TablesAscend = (c : Settings) (J : Journal) → InPool c (tables_of c J).ports

-- After each legal journal nobody is overdue at the clock.
abbrev pub LegalIsQuiet : Type 0
LegalIsQuiet = (c : Settings) (J : Journal) → Legal c J → overdue c (tables_of c J) (now_of (tables_of c J)) ≡ []
