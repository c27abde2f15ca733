-- Ranges of a configuration's values that frames hold.
use Rattle.std.proofs.Common.{ℕ, ◌≤◌, nat_le, IsTrue}
use Rattle.std.proofs.lemmas.Bool.{leb-true}
use Rattle.fab_config.specs.Settings.{Settings, is_in_range, is_between}
use Rattle.fab_config.specs.InRange.{inside_in_range}
use Rattle.fab_config.specs.declared.Config.TheInside.{Inside}
use Rattle.fip_codec.proofs.Sound.{and-left, and-right}

at_most : (least most n : ℕ) → IsTrue (is_between least most n) → n ≤ most
at_most least most n h = leb-true n most (and-right (nat_le least n) (nat_le n most) h)

pub record Ranges (c : Settings) : Type 0 where
  pub fc_map : c.fc_map ≤ 0x0efcff
  pub vlan : c.vlan ≤ 4094

-- what the range of a configuration says of the values that frames hold
pub ranges : (c : Settings) → IsTrue (is_in_range c) → Ranges c
ranges c h =
    let to_vlan = and-left _ _ (and-left _ _ (and-left _ _ (and-left _ _ (and-left _ _ (and-left _ _ (and-left _ _ (and-left _ _ (and-left _ _ h)))))))) in
    record {
      fc_map = at_most 0x0efc00 0x0efcff c.fc_map (and-right _ _ (and-left _ _ to_vlan));
      vlan = at_most 1 4094 c.vlan (and-right _ _ to_vlan);
    }

pub ranges_inside : (i : Inside) → inside_in_range i → (i.fc_map ≤ 0x0efcff) × (i.vlan ≤ 4094)
ranges_inside i h =
    let c : Settings = record {
      switch = i.switch;
      fcf_mac = i.fcf_mac;
      fc_map = i.fc_map;
      vlan = i.vlan;
      domain = i.domain;
      pool = i.pool;
      priority = i.priority;
      period = i.period;
      window = i.window;
      limit = i.limit;
      zones = i.zones;
      sets = i.sets;
      activations = i.activations;
    } in
    let r = ranges c h in
    (r.fc_map, r.vlan)
