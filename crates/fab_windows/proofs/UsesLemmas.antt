-- What calls that write some names and read none leave, in other words.
use Rattle.std.proofs.Common.{ℕ, List, inl, inr}
use Rattle.fab_base.specs.Ending.{End, Either, Uses}
use Rattle.fab_base.specs.Seen.{Seen, Touches, Nothing}
use Rattle.fab_base.proofs.SeenLemmas.{touches_wider}

is_written : (writes : List ℕ → Type 0) (m : List ℕ) → Either Nothing writes m → writes m
is_written writes m (inl none) = absurd none
is_written writes m (inr x) = x

pub writing_touches : (writes : List ℕ → Type 0) {end : End} (a b : Seen) → Uses Nothing writes end a b → Touches writes writes a b
writing_touches writes a b u = touches_wider writes (Either Nothing writes) writes writes a b (λ m x. x) (is_written writes) u.touches
