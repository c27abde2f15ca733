-- What further entries add to what a journal says, and what further records change of a run.
use Rattle.std.specs.Prelude.{◌≡◌, ℕ, ◌+◌, ◌<◌, ◌≤◌, ◌==◌, List, [], ◌∷◌, ◌++◌, length, map, filter, flat_map}
use Rattle.fab_config.specs.Settings.{Settings}
use Rattle.pcap_file.specs.Capture.{head_bytes}
use Rattle.pcap_file.specs.declared.Record.{Record}
use Rattle.fab_policy.specs.Journal.{Journal, followed, now}
use Rattle.fab_policy.specs.Legal.{Timed, Run, HasPorts, HoldsFrames, window_start}
use Rattle.fab_policy.specs.Outputs.{Sent}
use Rattle.fab_policy.specs.Ranged.{IsRanged}
use Rattle.fab_policy.specs.Standing.{sent_after}
use Rattle.fab_policy.specs.Text.{text, line, head_line, egress, sent_bytes}
use Rattle.fab_policy.specs.Written.{before}
use Rattle.fab_policy.specs.declared.event.Event.{Event}
use Rattle.fab_policy.specs.declared.event.Event.TheVariants.{Tick, Frame}

-- ---- entries after entries

-- More entries may come in two parts.
abbrev pub FollowedByParts : Type 0
FollowedByParts = (J : Journal) (es more : List Event) → followed J (es ++ more) ≡ followed (followed J es) more

-- So may what they send.
abbrev pub SentByParts : Type 0
SentByParts = (c : Settings) (n : ℕ) (J : Journal) (es more : List Event) → sent_after c n J (es ++ more) ≡ sent_after c n J es ++ sent_after c n (followed J es) more

-- A journal is in range with further entries where it was and each of them is.
abbrev pub RangedByParts : Type 0
RangedByParts = (J : Journal) (es : List Event) → IsRanged J → IsRanged es → IsRanged (followed J es)

-- ---- text and captures

-- the clock after an entry at a clock
abbrev pub clock_after : ℕ → Event → ℕ
clock_after t (Tick m ended) = m
clock_after t (Frame port index caught verdict) = t

-- the lines of entries from a clock on
abbrev pub lines_from : ℕ → List Event → List ℕ
lines_from t [] = []
lines_from t (e ∷ more) = line (clock_after t e) e ++ lines_from (clock_after t e) more

-- the records of what is sent on a port
abbrev pub records_to : ℕ → List Sent → List ℕ
records_to p sents = flat_map sent_bytes (filter (λ s. s.port == p) sents)

-- Further entries add their lines to the text.
abbrev pub TextGrows : Type 0
TextGrows = (J : Journal) (more : List Event) → text (followed J more) ≡ text J ++ lines_from (now J) more

-- They add what they send on a port to its capture.
abbrev pub EgressGrows : Type 0
EgressGrows = (c : Settings) (n p : ℕ) (J : Journal) (more : List Event) → egress c n p (followed J more) ≡ egress c n p J ++ records_to p (sent_after c n J more)

-- A journal without entries is one line, and its captures are heads.
abbrev pub NothingIsWritten : Type 0
NothingIsWritten = (text [] ≡ head_line) × ((c : Settings) (n p : ℕ) → egress c n p [] ≡ head_bytes)

-- ---- runs

-- one list of records behind another, for each port
abbrev pub with_more : List (List Record) → List (List Record) → List (List Record)
with_more [] more = []
with_more (records ∷ ins) [] = records ∷ ins
with_more (records ∷ ins) (later ∷ more) = (records ++ later) ∷ with_more ins more

-- records in windows before one, of a port and of all ports
abbrev pub AreBelow : Settings → ℕ → List Record → Type 0
AreBelow c w [] = Unit {0}
AreBelow c w (r ∷ records) = (window_start c r.moment < w) × AreBelow c w records

abbrev pub AllBelow : Settings → ℕ → List (List Record) → Type 0
AllBelow c w [] = Unit {0}
AllBelow c w (records ∷ ins) = AreBelow c w records × AllBelow c w ins

-- records in that window or later ones
abbrev pub AreFrom : Settings → ℕ → List Record → Type 0
AreFrom c w [] = Unit {0}
AreFrom c w (r ∷ records) = (w ≤ window_start c r.moment) × AreFrom c w records

abbrev pub AllFrom : Settings → ℕ → List (List Record) → Type 0
AllFrom c w [] = Unit {0}
AllFrom c w (records ∷ more) = AreFrom c w records × AllFrom c w more

-- Records of the last window or of later ones change nothing of the time of what was run before them.
abbrev pub TimedGrows : Type 0
TimedGrows =
    (c : Settings) (w : ℕ) (ins more : List (List Record)) (J : Journal) → HasPorts (length ins) J → HoldsFrames J 1 ins → Timed c ins J
    → AllBelow c (w + 1) ins → AllFrom c w more → length more ≡ length ins → Timed c (with_more ins more) J

-- A journal without entries is a run over no records of any ports, as over those in windows before the first moment.
abbrev pub NothingIsRun : Type 0
NothingIsRun = (c : Settings) (ins : List (List Record)) → Run c (map (λ records. []) ins) [] × (before c 0 ins ≡ map (λ records. []) ins)
