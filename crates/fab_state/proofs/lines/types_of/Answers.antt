use Rattle.std.proofs.Common.{◌≡◌, ◌∙◌, ◌*◌, ℕ, [], ◌∷◌, length, arith}
use Rattle.std.specs.Prelude.{flat_map}
use Rattle.fab_base.specs.Layout.{spelled}
use Rattle.fab_pieces.proofs.SeamLemmas.{same_types}
use Rattle.fab_state.proofs.LineLemmas.{eight_longs, types_below, types_digits, types_length}
use Rattle.fab_state.proofs.lines.types_of.Goals as goal

pub returns : goal.returns
returns c t eight below e =
    let l = t.0 in
    let bytes = c.read_digits.ensures (flat_map (spelled 4) l) (types_below l) (types_length l ∙ (let size : 4 * length l ≡ 32 = omega arith in size)) (e ∙ types_digits l) in
    same_types (all_longs c.long_at.ensures c.long_at-2.ensures c.long_at-3.ensures c.long_at-4.ensures c.long_at-5.ensures c.long_at-6.ensures c.long_at-7.ensures c.long_at-8.ensures
    ∙ eight_longs l c.read_digits.new.bytes eight below bytes)
  where
    all_longs : {a' b' c' d' e' f' g' h' a b c d e f g h : ℕ} → a' ≡ a → b' ≡ b → c' ≡ c → d' ≡ d → e' ≡ e → f' ≡ f → g' ≡ g → h' ≡ h → a' ∷ b' ∷ c' ∷ d' ∷ e' ∷ f' ∷ g' ∷ h' ∷ [] ≡ a ∷ b ∷ c ∷ d ∷ e ∷ f ∷ g ∷ h ∷ []
    all_longs e1 e2 e3 e4 e5 e6 e7 e8 = cc
