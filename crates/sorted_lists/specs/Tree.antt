-- How a row lies under a row of its words. No public clause cites this module.
use Rattle.std.specs.Prelude.{◌≡◌, ℕ, ◌+◌, ◌*◌, ◌/◌, ◌<◌, ◌≤◌, ◌^◌, true, List, length}
use Rattle.sorted_lists.specs.Row.{has}

-- A word that has a bit is told above, and each word has its place there.
pub record IsTree (leaves tops : List ℕ) : Type 0 where
  pub told : (q : ℕ) → has leaves q ≡ true → has tops (q / 64) ≡ true
  pub wide : length leaves ≤ 64 * length tops
  pub few : length leaves < 2 ^ 32
  pub few_tops : length tops < 2 ^ 32
