use Rattle.std.proofs.Common.{◌≡◌, ◌∙◌, ℕ, List, ap, sym, length, eqb-true}
use Rattle.std.proofs.lemmas.Result.{IfOk-weaker}
use Rattle.ct_messages.specs.Server.{NO_FEATURES}
use Rattle.fab_pieces.specs.Seam.{AreBelow, features_word}
use Rattle.fab_state.proofs.LineLemmas.{features_below, features_none, features_some, spelled_features}
use Rattle.fab_state.proofs.ReadLemmas.{false_not}
use Rattle.fab_state.proofs.lines.features_of.Goals as goal

-- what is ensured of features that were read
abbrev IsOf : List ℕ → List ℕ → Type 0
IsOf word b = (fs : List ℕ) → length fs ≡ 256 → AreBelow 256 fs → word ≡ features_word fs → b ≡ fs

pub returns-then-is_empty : goal.returns-then-is_empty
returns-then-is_empty c =
    let bytes = c.in_ok-bytes.bytes in
    let none : length bytes ≡ 0 = ap length (sym c.view.ensures.value) ∙ eqb-true (length c.view.result.now) 0 (sym c.if-is_empty.ensures) in
    IfOk-weaker c.no_features.result (λ b. b ≡ NO_FEATURES) (IsOf c.args.word.now)
    (λ b is fs size below e. is ∙ features_none fs bytes (c.in_ok-bytes.ensures (spelled_features fs) (features_below fs below) e) none size) c.no_features.ensures

pub returns-else-is_empty : goal.returns-else-is_empty
returns-else-is_empty c fs size below e =
    let bytes = c.in_ok-bytes.bytes in
    features_some fs bytes (c.in_ok-bytes.ensures (spelled_features fs) (features_below fs below) e)
    (λ none. absurd (false_not (length c.view.result.now) c.if-is_empty.ensures (ap length c.view.ensures.value ∙ none)))
