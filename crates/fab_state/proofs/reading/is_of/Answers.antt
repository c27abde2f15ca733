use Rattle.std.proofs.Common.{◌∷◌, true, refl, arith, eq-eqb, ne_eqb, inl, inr}
use Rattle.fab_policy.specs.Text.{address_word}
use Rattle.fab_state.proofs.ReadLemmas.{not_both}
use Rattle.fab_state.proofs.reading.is_of.Goals as goal

pub returns-then-begins-clause-own : goal.returns-then-begins-clause-own
returns-then-begins-clause-own c ws more h e =
    let small = c.value-then-begins.ensures.range in
    let right = c.value-then-begins.ensures.value in
    let named = c.named_in.ensures c.args.address ws more (omega (arith, small, right)) h e in
    let left = c.value.ensures.value in
    eq-eqb c.value.result c.value-then-begins.result (omega (arith, left, right, named))

pub returns-then-begins-clause-other : goal.returns-then-begins-clause-other
returns-then-begins-clause-other c o = elim o [
  | inl none ↦ absurd (not_both true refl (c.if-begins.ensures.other none))
  | inr it ↦
      let named = c.named_in.ensures it.address it.ws it.more it.small it.line it.is in
      let left = c.value.ensures.value in
      let right = c.value-then-begins.ensures.value in
      let differ = it.other in
      ne_eqb c.value.result c.value-then-begins.result (λ same. differ (omega (arith, left, right, named, same)))
]

pub returns-else-begins-clause-own : goal.returns-else-begins-clause-own
returns-else-begins-clause-own c ws more h e = c.if-begins.ensures.own (address_word c.args.address ∷ ws) more h e
