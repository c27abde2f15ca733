-- A clock that comes nearer to a moment.
use Rattle.std.proofs.Common.{◌≡◌, ℕ, ◌+◌, ◌-◌, ◌<◌, Option, Some, None, sym, subst, arith}
use Rattle.std.specs.Prelude.{IfSome}

-- how far it is from a moment that it stays before
abbrev pub distance : ℕ → Option ℕ → ℕ
distance w None = w + 1
distance w (Some t) = w - t

pub nearer : (n w : ℕ) (old new : Option ℕ) → IfSome old (λ t. t < w) → w < n → new ≡ Some w → distance n new < distance n old
nearer n w old new h lt is = subst (λ o. distance n o < distance n old) (sym is) (go old h)
  where
    go : (o : Option ℕ) → IfSome o (λ t. t < w) → distance n (Some w) < distance n o
    go None b = omega (arith, lt)
    go (Some t) b = omega (arith, b, lt)
