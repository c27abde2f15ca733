-- Which seams a fabric can be made of, and that it can be made of each seam of a session.
use Rattle.std.specs.Prelude.{◌≡◌, ℕ, ◌+◌, ◌*◌, ◌<◌, ◌≤◌, ◌^◌, List, [], length}
use Rattle.fab_config.specs.Settings.{Settings}
use Rattle.pcap_file.specs.declared.Record.{Record}
use Rattle.fab_policy.specs.Journal.{Journal}
use Rattle.fab_policy.specs.Outputs.{state_of}
use Rattle.fab_policy.specs.State.{now_of}
use Rattle.fab_states.specs.Runs.{RunFrom, counts_of, counts_on}
use Rattle.fab_states.specs.States.{state_on}
use Rattle.fab_pieces.specs.Seam.{IsRangedSeam, Seam}
use Rattle.fab_pieces.specs.Session.{no_records}
use Rattle.fab_pieces.specs.Sound.{AreBehind, EachPort, IsServed, IsSoundState, IsTimely}

-- A fabric of n ports can be made of a seam, and records go on behind it.
pub record CanRestore (c : Settings) (n : ℕ) (s : Seam) : Type 0 where
  pub sound : IsSoundState c s.state
  pub served : EachPort s.state.tables IsServed
  pub behind : AreBehind n s.state.tables
  pub timely : IsTimely s.state.tables
  pub ranged : IsRangedSeam s
  pub ports : length s.nexts ≡ n
  pub order : now_of s.state.tables ≤ s.greatest

-- the seam before the first piece
abbrev pub first_seam : Settings → ℕ → Seam
first_seam c n = record { state = state_of c []; nexts = counts_of (no_records n); greatest = 0 }

abbrev pub FirstCanRestore : Type 0
FirstCanRestore = (c : Settings) (n : ℕ) → n < 65 → c.domain * 65536 + 256 + c.pool ≤ 2 ^ 24 → CanRestore c n (first_seam c n)

-- The seam behind a run of a piece is one if that before it was, and its own numbers have their ranges.
abbrev pub RunsCanRestore : Type 0
RunsCanRestore =
    (c : Settings) (n : ℕ) (s t : Seam) (ins : List (List Record)) (K : Journal) → CanRestore c n s → length ins ≡ n → RunFrom c s.state s.nexts ins K
    → t.state ≡ state_on c s.state K → t.nexts ≡ counts_on s.nexts ins → now_of t.state.tables ≤ t.greatest → IsRangedSeam t → CanRestore c n t
