use Rattle.std.proofs.Common.{◌≡◌, ◌∙◌, ℕ, List, []}
use Rattle.std.proofs.lemmas.Result.{IfOk-weaker}
use Rattle.fab_pieces.specs.Seam.{AreBelow, bytes_word}
use Rattle.fab_state.proofs.ReadLemmas.{bytes_read, not_read}
use Rattle.fab_state.proofs.words.bytes_of.Goals as goal

pub returns-in-Ok : goal.returns-in-Ok
returns-in-Ok c bs below e = c.from_vec.ensures ∙ bytes_read c.args.word.now bs c.in-Ok.bytes.items below e c.in-Ok.ensures.ok

-- what is ensured of bytes that were read
abbrev IsOf : List ℕ → List ℕ → Type 0
IsOf word b = (bs : List ℕ) → AreBelow 256 bs → word ≡ bytes_word bs → b ≡ bs

pub returns-in-Err-OddLength : goal.returns-in-Err-OddLength
returns-in-Err-OddLength c =
    let at = c.in-Err-OddLength in
    IfOk-weaker c.copy.result (λ b. b ≡ []) (IsOf c.args.word.now) (λ b is bs below e. is ∙ not_read c.args.word.now bs at.field-0 (λ m. let i = at.field-0-is in cc) at.ensures.err below e) c.copy.ensures

pub returns-in-Err-InvalidStringLength : goal.returns-in-Err-InvalidStringLength
returns-in-Err-InvalidStringLength c =
    let at = c.in-Err-InvalidStringLength in
    IfOk-weaker c.copy-in-Err-InvalidStringLength.result (λ b. b ≡ []) (IsOf c.args.word.now) (λ b is bs below e. is ∙ not_read c.args.word.now bs at.field-0 (λ m. let i = at.field-0-is in cc) at.ensures.err below e)
    c.copy-in-Err-InvalidStringLength.ensures

pub returns-in-Err-InvalidHexCharacter : goal.returns-in-Err-InvalidHexCharacter
returns-in-Err-InvalidHexCharacter c =
    let at = c.in-Err-InvalidHexCharacter in
    IfOk-weaker c.copy-in-Err-InvalidHexCharacter.result (λ b. b ≡ []) (IsOf c.args.word.now) (λ b is bs below e. is ∙ not_read c.args.word.now bs at.field-0 (λ m. let i = at.field-0-is in cc) at.ensures.err below e)
    c.copy-in-Err-InvalidHexCharacter.ensures
