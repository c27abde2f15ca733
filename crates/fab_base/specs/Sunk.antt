-- What contracts see of a sink.
use Rattle.std.specs.Prelude.{◌≡◌, ℕ, ◌≤◌, Bool, IsTrue, List, ◌++◌, length, take, Result, IfOk, OnOk, OnErr}
use Rattle.fab_base.specs.Seen.{Rose}

-- A sink at a moment. What was written means something only where it tells.
pub record Sunk : Type 0 where
  pub told : Bool
  pub written : List ℕ
  pub faults : ℕ

-- A put appends the first n of these bytes, at least one. It fails only where a fault was counted, and appends nothing then;
-- else it counts none.
pub record Sinks {E : Type 0} (from : List ℕ) (old new : Sunk) (result : Result ℕ E) : Type 0 where
  pub told : new.told ≡ old.told
  pub rise : old.faults ≤ new.faults
  pub some : IfOk result (λ n. (1 ≤ n) × (n ≤ length from))
  pub grown : IsTrue old.told → IfOk result (λ n. new.written ≡ old.written ++ take n from)
  pub same : IsTrue old.told → OnErr result (new.written ≡ old.written)
  pub cause : OnErr result (Rose old.faults new.faults)
  pub counts : OnOk result (new.faults ≡ old.faults)

-- Putting all these bytes appends them, or a front of them where it fails; no fault is counted where it succeeds.
pub record SinksAll {T E : Type 0} (from : List ℕ) (old new : Sunk) (result : Result T E) : Type 0 where
  pub told : new.told ≡ old.told
  pub rise : old.faults ≤ new.faults
  pub grown : IsTrue old.told → OnOk result (new.written ≡ old.written ++ from)
  pub part : IsTrue old.told → (n : ℕ) × (new.written ≡ old.written ++ take n from)
  pub cause : OnErr result (Rose old.faults new.faults)
  pub counts : OnOk result (new.faults ≡ old.faults)
