-- What the range of a configuration says of its values.
use Rattle.std.proofs.Common.{ℕ, ◌≤◌, Bool, true, false, IsTrue, refl}
use Rattle.std.specs.Prelude.{nat_le, ◌&&◌}
use Rattle.std.proofs.lemmas.Bool.{leb-true}
use Rattle.fab_config.specs.Settings.{Settings, is_between, is_in_range}
use Rattle.forward_core.specs.Ranges.{Ranges}

left : (a b : Bool) → IsTrue (a && b) → IsTrue a
left true b t = refl
left false b t = t

right : (a b : Bool) → IsTrue (a && b) → IsTrue b
right true b t = t
right false b t = cc

at_least : (least most n : ℕ) → IsTrue (is_between least most n) → least ≤ n
at_least least most n h = leb-true least n (left (nat_le least n) (nat_le n most) h)

at_most : (least most n : ℕ) → IsTrue (is_between least most n) → n ≤ most
at_most least most n h = leb-true n most (right (nat_le least n) (nat_le n most) h)

pub ranges : (c : Settings) → IsTrue (is_in_range c) → Ranges c
ranges c h =
    let activations = right _ _ h in
    let to_sets = left _ _ h in
    let to_zones = left _ _ to_sets in
    let to_limit = left _ _ to_zones in
    let to_window = left _ _ to_limit in
    let to_period = left _ _ to_window in
    let to_priority = left _ _ to_period in
    let to_pool = left _ _ to_priority in
    let to_domain = left _ _ to_pool in
    let domain = right _ _ to_domain in
    let pool = right _ _ to_pool in
    let period = right _ _ to_period in
    let window = right _ _ to_window in
    let limit = right _ _ to_limit in
    record {
      domain_least = at_least 1 239 c.domain domain;
      domain = at_most 1 239 c.domain domain;
      pool_least = at_least 1 60000 c.pool pool;
      pool = at_most 1 60000 c.pool pool;
      period_least = at_least 250 90000 c.period period;
      period = at_most 250 90000 c.period period;
      window_least = at_least 10 1000 c.window window;
      window = at_most 10 1000 c.window window;
      limit_least = at_least 1 1000 c.limit limit;
      limit = at_most 1 1000 c.limit limit;
      rise = right _ _ (left _ _ activations);
    }
