use Rattle.std.proofs.Common.{◌≡◌, ℕ, ◌++◌, ◌∙◌, ap, drop, get_or, refl, set, sym, take, arith}
use Rattle.ct_messages.specs.Server.{Values}
use Rattle.forward_core.proofs.FeatureLemmas.{all_of, below_at, one_more}
use Rattle.forward_core.proofs.kept.set_features.Goals as goal

pub loop-kind-init : goal.loop-kind-init
loop-kind-init c = refl

pub set_feature-requires : goal.set_feature-requires
set_feature-requires c = let within = c.loop-kind-test.true in let count = c.requires.count in below_at 16 c.args.features.now c.loop-kind.kind 0 c.requires.low (omega (arith, within, count))

pub loop-kind-preserved : goal.loop-kind-preserved
loop-kind-preserved c =
    let old = c.args.values.now in
    let k = c.loop-kind.kind in
    let xs = c.args.features.now in
    let within = c.loop-kind-test.true in
    let count = c.requires.count in
    let there = c.requires.there in
    c.set_feature.ensures.value ∙ ap (λ (v : Values). record v { features = set v.features k (get_or xs k 0) }) c.loop-kind.invariant
    ∙ ap (λ l. record old { features = l }) (one_more k xs old.features 0 (omega (arith, within, count)) (count ∙ sym there))

pub returns : goal.returns
returns c =
    let old = c.args.values.now in
    let xs = c.args.features.now in
    let over = c.loop-kind-test.false in
    let most = c.loop-kind.auto.kind-end in
    let last : c.loop-kind.kind ≡ 256 = omega (arith, over, most) in
    c.loop-kind.invariant ∙ ap (λ (k : ℕ). record old { features = take k xs ++ drop k old.features }) last
    ∙ ap (λ l. record old { features = l }) (all_of 256 xs old.features c.requires.count c.requires.there)
