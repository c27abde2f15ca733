-- What a stop keeps of records that are split at a window: all those before it.
use Rattle.std.specs.Prelude.{◌≡◌, ℕ, ◌≤◌, List, [], ◌∷◌, ◌++◌, map, Option, Some, None}
use Rattle.fab_config.specs.Settings.{Settings}
use Rattle.pcap_file.specs.declared.Record.{Record}
use Rattle.fab_policy.specs.Growing.{AreBelow, AreFrom}
use Rattle.window_records.specs.Looks.{Opened, Look, Stop, stop_in, in_order, kept, records_in, all_records}
use Rattle.fab_policy.specs.Written.{before}

-- The records of each capture are those that were taken, all in windows before one, and later ones.
abbrev pub Splits : Settings → ℕ → List Opened → List (List Record) → Type 0
Splits c w [] [] = Unit {0}
Splits c w [] (records ∷ taken) = ⊥
Splits c w (o ∷ ins) [] = ⊥
Splits c w (o ∷ ins) (records ∷ taken) = ((later : List Record) × (records_in o ≡ records ++ later) × AreBelow c w records × AreFrom c w later) × Splits c w ins taken

-- a window that isn't before another; a first look has none
abbrev pub IsFrom : ℕ → Option ℕ → Type 0
IsFrom w None = ⊥
IsFrom w (Some v) = w ≤ v

-- such are the windows of these looks, and that of a stop, if there is one
abbrev pub AllAhead : ℕ → List Look → Type 0
AllAhead w [] = Unit {0}
AllAhead w (x ∷ looks) = IsFrom w x.window × AllAhead w looks

abbrev pub IsAhead : ℕ → Option Stop → Type 0
IsAhead w None = Unit {0}
IsAhead w (Some s) = IsFrom w s.window

-- Looks in that window or later ones stop there or later.
abbrev pub StopsAhead : Type 0
StopsAhead = (w first bytes frames : ℕ) (looks : List Look) → AllAhead w looks → IsAhead w (stop_in first bytes frames (in_order looks))

-- A stop there or later keeps all records before the window.
abbrev pub KeepsBefore : Type 0
KeepsBefore =
    (c : Settings) (w : ℕ) (s : Option Stop) (ins : List Opened) (taken : List (List Record)) → IsAhead w s → Splits c w ins taken
    → before c w (map (kept c s) (all_records ins)) ≡ taken

-- One in that window keeps just these.
abbrev pub KeepsJust : Type 0
KeepsJust =
    (c : Settings) (w : ℕ) (s : Stop) (ins : List Opened) (taken : List (List Record)) → s.window ≡ Some w → Splits c w ins taken
    → map (kept c (Some s)) (all_records ins) ≡ taken

-- Without a stop all is kept.
abbrev pub KeepsAll : Type 0
KeepsAll = (c : Settings) (ins : List (List Record)) → map (kept c None) ins ≡ ins
