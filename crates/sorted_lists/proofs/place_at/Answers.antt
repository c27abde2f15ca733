use Rattle.std.proofs.Common.{◌≡◌, ℕ, ◌∙◌, ◌==◌, Bool, true, false, not, ap, sym, refl, arith}
use Rattle.fab_base.proofs.SamenessLemmas.{unwrap_or-position}
use Rattle.sorted_lists.specs.Reach.{place_of}
use Rattle.sorted_lists.proofs.SearchLemmas.{position-there, position-past, position-other}
use Rattle.sorted_lists.proofs.place_at.Goals as goal

is_not : (b : Bool) → not b ≡ true → b ≡ false
is_not true e = cc
is_not false e = refl

isnt_not : (b : Bool) → not b ≡ false → b ≡ true
isnt_not true e = refl
isnt_not false e = cc

pub returns-then-place-items : goal.returns-then-place-items
returns-then-place-items g c = position-past g.T.HasAddress.address_of c.args.address 0 c.place_from-place.result c.args.items.now c.requires (c.place_from-place.ensures.place ∙ unwrap_or-position _ c.args.items.now ∙ ap (λ (n : ℕ). place_of g.T.HasAddress.address_of n c.args.items.now) c.value.ensures.value) c.if-place-items.true

pub returns-then-ne : goal.returns-then-ne
returns-then-ne g c = position-other g.T.HasAddress.address_of c.args.address 0 c.place_from-place.result c.args.items.now c.index-items-place.result c.requires (c.place_from-place.ensures.place ∙ unwrap_or-position _ c.args.items.now ∙ ap (λ (n : ℕ). place_of g.T.HasAddress.address_of n c.args.items.now) c.value.ensures.value) (omega (arith, c.if-place-items.false, c.place_from-place.ensures.within))
    (ap (λ x. g.T.HasAddress.address_of x == c.args.address) (sym c.index-items-place.is) ∙ ap (λ (n : ℕ). n == c.args.address) (sym c.address.ensures) ∙ is_not _ (sym c.ne.ensures ∙ c.if-ne.true))

pub returns : goal.returns
returns g c = position-there g.T.HasAddress.address_of c.args.address 0 c.place_from-place.result c.args.items.now c.index-items-place.result c.requires (c.place_from-place.ensures.place ∙ unwrap_or-position _ c.args.items.now ∙ ap (λ (n : ℕ). place_of g.T.HasAddress.address_of n c.args.items.now) c.value.ensures.value) (omega (arith, c.if-place-items.false, c.place_from-place.ensures.within))
    (ap (λ x. g.T.HasAddress.address_of x == c.args.address) (sym c.index-items-place.is) ∙ ap (λ (n : ℕ). n == c.args.address) (sym c.address.ensures) ∙ isnt_not _ (sym c.ne.ensures ∙ c.if-ne.false))
