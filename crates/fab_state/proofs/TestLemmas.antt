-- Tests one after another, and tests of lists.
use Rattle.std.proofs.Common.{◌≡◌, ℕ, Bool, true, false, cond, Option, Some, None, refl}

module _ {X : Type 0} where
  -- the first of two tests fails, or what comes behind it
  pub two : (a b : Bool) (x y : X) (o : Option X) → cond a (Some x) (cond b (Some y) o) ≡ None → (a ≡ false) × (b ≡ false) × (o ≡ None)
  two true b x y o e = absurd (cc)
  two false true x y o e = absurd (cc)
  two false false x y o e = (refl, refl, e)

  pub two_so : (a b : Bool) (x y : X) (o : Option X) → a ≡ false → b ≡ false → o ≡ None → cond a (Some x) (cond b (Some y) o) ≡ None
  two_so true b x y o h k e = absurd (cc)
  two_so false true x y o h k e = absurd (cc)
  two_so false false x y o h k e = e

  pub one : (a : Bool) (x : X) (o : Option X) → cond a (Some x) o ≡ None → (a ≡ false) × (o ≡ None)
  one true x o e = absurd (cc)
  one false x o e = (refl, e)

  pub one_so : (a : Bool) (x : X) (o : Option X) → a ≡ false → o ≡ None → cond a (Some x) o ≡ None
  one_so true x o h e = absurd (cc)
  one_so false x o h e = e

  -- nothing fails where a test holds
  pub else_is : (b : Bool) (x : X) → cond b None (Some x) ≡ None → b ≡ true
  else_is true x e = refl
  else_is false x e = absurd (cc)

  pub else_so : (b : Bool) (x : X) → b ≡ true → cond b None (Some x) ≡ None
  else_so true x h = refl
  else_so false x h = absurd (cc)

-- both of two tests
pub both_is : (b x : Bool) → cond b x false ≡ true → (b ≡ true) × (x ≡ true)
both_is true x e = (refl, e)
both_is false x e = absurd (cc)

pub both_so : (b x : Bool) → b ≡ true → x ≡ true → cond b x false ≡ true
both_so true x h e = e
both_so false x h e = absurd (cc)

-- neither of two tests
pub neither_is : (b x : Bool) → cond b true x ≡ false → (b ≡ false) × (x ≡ false)
neither_is true x e = absurd (cc)
neither_is false x e = (refl, e)

pub neither_so : (b x : Bool) → b ≡ false → x ≡ false → cond b true x ≡ false
neither_so true x h e = absurd (cc)
neither_so false x h e = e

-- the second of two tests, and not the first
pub second_is : (b x : Bool) → cond b false x ≡ true → (b ≡ false) × (x ≡ true)
second_is true x e = absurd (cc)
second_is false x e = (refl, e)

pub second_so : (b x : Bool) → b ≡ false → x ≡ true → cond b false x ≡ true
second_so true x h e = absurd (cc)
second_so false x h e = e
