-- A draft of which each value is in its range.
use Rattle.std.specs.Prelude.{◌≡◌, Bool, true, nat_le, length, Option, None, Some}
use Rattle.fab_config.specs.Settings.{is_between, is_station, are_zones, are_sets, are_activations}
use Rattle.fab_config.specs.declared.draft.Draft.{Draft}

-- a value that is there passes a test
abbrev pub passes : {X : Type 0} → (X → Bool) → Option X → Bool
passes test None = true
passes test (Some x) = test x

pub record Fits (d : Draft) : Type 0 where
  pub fcf_mac : passes is_station d.fcf_mac ≡ true
  pub vlan : passes (is_between 1 4094) d.vlan ≡ true
  pub map : passes (is_between 0x0efc00 0x0efcff) d.map ≡ true
  pub domain : passes (is_between 1 239) d.domain ≡ true
  pub pool : passes (is_between 1 60000) d.pool ≡ true
  pub priority : passes (λ n. nat_le n 255) d.priority ≡ true
  pub period : passes (is_between 250 90000) d.period ≡ true
  pub window : passes (is_between 10 1000) d.window ≡ true
  pub limit : passes (is_between 1 1000) d.limit ≡ true
  pub zones : are_zones d.zones ≡ true
  pub sets : are_sets (length d.zones) d.sets ≡ true
  pub activations : are_activations (length d.sets) d.activations ≡ true
