-- The ranges of a configuration's values that the fabric counts on.
use Rattle.std.specs.Prelude.{◌≤◌, IsTrue}
use Rattle.fab_config.specs.Settings.{Settings, do_rise}

pub record Ranges (c : Settings) : Type 0 where
  pub domain_least : 1 ≤ c.domain
  pub domain : c.domain ≤ 239
  pub pool_least : 1 ≤ c.pool
  pub pool : c.pool ≤ 60000
  pub period_least : 250 ≤ c.period
  pub period : c.period ≤ 90000
  pub window_least : 10 ≤ c.window
  pub window : c.window ≤ 1000
  pub limit_least : 1 ≤ c.limit
  pub limit : c.limit ≤ 1000
  pub rise : IsTrue (do_rise c.activations)
