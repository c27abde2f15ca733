-- What an error tells of the reading of a line, and of a text.
use Rattle.std.specs.Prelude.{◌≡◌, ℕ, Result, Ok, Err, MatchResult}
use Rattle.fab_config.specs.declared.ConfigWhy.{ConfigWhy}
use Rattle.fab_config.specs.declared.ConfigFault.{ConfigFault}
use Rattle.fab_config.specs.declared.reading.LineError.{LineError}
use Rattle.fab_config.specs.declared.reading.LineError.TheVariants as line
use Rattle.fab_config.specs.declared.reading.ConfigError.{ConfigError}
use Rattle.fab_config.specs.declared.reading.ConfigError.TheVariants as text

-- a fault is that of the line; want of memory tells nothing
abbrev pub Tells : {X : Type 0} → LineError → Result X ConfigWhy → Type 0
Tells (line.Fault why) r = r ≡ Err why
Tells line.Memory r = Unit {0}

-- the answer is what a line says, or an error that tells of its fault
abbrev pub Answers : {X : Type 0} → Result X LineError → Result X ConfigWhy → Type 0
Answers result r = MatchResult result (λ x. r ≡ Ok x) (λ e. Tells e r)

-- the same of what a change leaves
abbrev pub Leaves : {X : Type 0} → X → Result (Unit {0}) LineError → Result X ConfigWhy → Type 0
Leaves left result r = MatchResult result (λ u. r ≡ Ok left) (λ e. Tells e r)

-- what an error of a line is to the text
abbrev pub text_error : ℕ → LineError → ConfigError
text_error n (line.Fault why) = text.Fault (record { line = n; why = why })
text_error n line.Memory = text.Memory

-- the same of a whole text
abbrev pub TellsText : {X : Type 0} → ConfigError → Result X ConfigFault → Type 0
TellsText (text.Fault fault) r = r ≡ Err fault
TellsText text.Memory r = Unit {0}

abbrev pub AnswersText : {X : Type 0} → Result X ConfigError → Result X ConfigFault → Type 0
AnswersText result r = MatchResult result (λ x. r ≡ Ok x) (λ e. TellsText e r)
