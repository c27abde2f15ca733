-- Windows of moments.
use Rattle.std.proofs.Common.{◌≡◌, ℕ, zero, suc, ◌*◌, ◌/◌, ◌%◌, ◌<◌, ◌≤◌, IsTrue, ap, ◌∙◌, arith}
use Rattle.std.specs.Prelude.{nat_le}
use Rattle.std.proofs.lemmas.Bool.{leb-true}
use Rattle.std.proofs.Math.Nat.{div-add-mod, div-mul-le_self, le-div_iff_mul-le, mul-le-mul_left, mul-mod_right}
use Rattle.fab_config.specs.Settings.{Settings, is_between, is_in_range}
use Rattle.fab_policy.proofs.WordLemmas.{and_left, and_right}
use Rattle.fab_policy.specs.Legal.{window_start}

-- a window is a multiple
pub window_mul : (c : Settings) (m : ℕ) → window_start c m ≡ c.window * (m / c.window)
window_mul c m = let e = div-add-mod m c.window in omega arith

mul_div-mono : (w m n : ℕ) → m ≤ n → w * (m / w) ≤ w * (n / w)
mul_div-mono zero m n le = omega arith
mul_div-mono (suc w) m n le =
    let least : m / suc w * suc w ≤ m = div-mul-le_self m (suc w) in
    let some : 0 < suc w = omega arith in
    mul-le-mul_left (suc w) ((le-div_iff_mul-le {k = suc w} {x = m / suc w} {y = n} some).1 (omega arith))

-- those of later moments are later
pub window_start-mono : (c : Settings) (m n : ℕ) → m ≤ n → window_start c m ≤ window_start c n
window_start-mono c m n le = let first = window_mul c m in let second = window_mul c n in let more = mul_div-mono c.window m n le in omega arith

pub window_start-mod : (c : Settings) (m : ℕ) → window_start c m % c.window ≡ 0
window_start-mod c m = ap (λ (x : ℕ). x % c.window) (window_mul c m) ∙ mul-mod_right c.window (m / c.window)

-- a configuration has a window
pub window_some : (c : Settings) → IsTrue (is_in_range c) → 0 < c.window
window_some c h = least_is (and_right _ _ (and_left _ _ (and_left _ _ (and_left _ _ (and_left _ _ h)))))
  where
    least_is : IsTrue (is_between 10 1000 c.window) → 0 < c.window
    least_is own = let least = leb-true 10 c.window (and_left (nat_le 10 c.window) (nat_le c.window 1000) own) in omega arith
