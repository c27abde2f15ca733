-- Journals whose numbers are in the ranges of their types, and what the text of one says of it.
use Rattle.std.specs.Prelude.{◌≡◌, ℕ, ◌<◌, ◌≤◌, ◌^◌, nat_lt, List, [], ◌∷◌, is_some, IfSome}
use Rattle.std.specs.List.{All, AllPass}
use Rattle.fab_base.specs.Keyed as keyed
use Rattle.fab_policy.specs.Cause.{is_numbered}
use Rattle.fab_policy.specs.Journal.{Journal}
use Rattle.fab_policy.specs.Legal.{of_port}
use Rattle.fab_policy.specs.Text.{text, text1}
use Rattle.fab_policy.specs.declared.event.Event.{Event}
use Rattle.fab_policy.specs.declared.event.Event.TheVariants.{Tick, Frame}
use Rattle.fab_policy.specs.declared.verdict.Verdict.{Verdict}
use Rattle.fab_policy.specs.declared.verdict.Verdict.TheVariants.{Granted, Rejected, Logout, AlivePort, Watching, Refused, Forwarded, Dropped}

-- an N_Port_ID has 24 bits
abbrev pub IsAddress : ℕ → Type 0
IsAddress a = a < 2 ^ 24

-- addresses that ascend strictly, the first of them not below a bound
abbrev pub AscendFrom : ℕ → List ℕ → Type 0
AscendFrom from ended = keyed.AscendFrom (λ a. a) from ended × All IsAddress ended

-- the numbers of a verdict: addresses of 24 bits, codes of 8, ports 1 to 64, and a number of 32 beside the rules that have one
abbrev pub IsRangedVerdict : Verdict → Type 0
IsRangedVerdict (Granted a) = IsAddress a
IsRangedVerdict (Logout a) = IsAddress a
IsRangedVerdict (AlivePort a) = IsAddress a
IsRangedVerdict (Rejected reason explanation) = (reason < 256) × (explanation < 256)
IsRangedVerdict (Refused reason explanation) = (reason < 256) × (explanation < 256)
IsRangedVerdict (Watching function) = function < 256
IsRangedVerdict (Forwarded port) = (1 ≤ port) × (port ≤ 64)
IsRangedVerdict (Dropped cause) = (is_some cause.number ≡ is_numbered cause.rule) × IfSome cause.number (λ n. n < 2 ^ 32)
IsRangedVerdict _ = Unit {0}

-- the numbers of an entry: moments and indexes of 64 bits, addresses that ascend, and the bytes of a frame
abbrev pub IsRangedEvent : Event → Type 0
IsRangedEvent (Tick m ended) = (m < 2 ^ 64) × AscendFrom 0 ended
IsRangedEvent (Frame port index caught verdict) = (1 ≤ port) × (port ≤ 64) × (index < 2 ^ 64) × AllPass (λ b. nat_lt b 256) caught.bytes × IsRangedVerdict verdict

-- the numbers of all entries of a journal
abbrev pub IsRanged : Journal → Type 0
IsRanged [] = Unit {0}
IsRanged (e ∷ J) = IsRanged J × IsRangedEvent e

-- Text and captures name one journal: two that have the same text in one format, and the same frames of each port, are equal.
abbrev pub TextNamesJournal : Type 0
TextNamesJournal = (I J : Journal) → IsRanged I → IsRanged J →
    ((p : ℕ) → of_port p I ≡ of_port p J) → (text I ≡ text J → I ≡ J) × (text1 I ≡ text1 J → I ≡ J)
