-- What the types of a configuration's fields keep: bytes are below 256, and names below 2^64.
use Rattle.std.specs.Prelude.{◌≡◌, ◌^◌, true, nat_lt}
use Rattle.std.specs.List.{list_all}
use Rattle.fab_config.specs.Settings.{Settings}

pub record IsTyped (c : Settings) : Type 0 where
  pub bytes : list_all (λ b. nat_lt b 256) c.fcf_mac ≡ true
  pub members : list_all (λ z. list_all (λ m. nat_lt m (2 ^ 64)) z.members) c.zones ≡ true
