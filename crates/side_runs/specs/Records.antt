-- The records of several captures.
use Rattle.std.specs.Prelude.{ℕ, ◌+◌, List, [], ◌∷◌, length}
use Rattle.pcap_file.specs.declared.Record.{Record}
use Rattle.pcap_file.specs.Captures.{AreFit}

-- each can be written
abbrev pub AllFit : List (List Record) → Type 0
AllFit [] = Unit {0}
AllFit (records ∷ ins) = AreFit records × AllFit ins

-- how many there are
abbrev pub count_in : List (List Record) → ℕ
count_in [] = 0
count_in (records ∷ ins) = length records + count_in ins

-- the moment of the first, or this one where there is none
abbrev pub first_moment : ℕ → List Record → ℕ
first_moment other [] = other
first_moment other (r ∷ records) = r.moment
