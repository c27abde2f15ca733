-- What a test of a range says.
use Rattle.std.proofs.Common.{◌≡◌, ℕ, ◌≤◌, true}
use Rattle.std.proofs.lemmas.Bool.{leb-true, and_parts}
use Rattle.fab_config.specs.Settings.{is_between}

pub between : (least most n : ℕ) → is_between least most n ≡ true → (least ≤ n) × (n ≤ most)
between least most n h = (leb-true least n (and_parts _ _ h).0, leb-true n most (and_parts _ _ h).1)
