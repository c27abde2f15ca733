-- What a contract sees of zones: three lists.
use Rattle.std.specs.Prelude.{List}
use Rattle.fab_config.specs.declared.Zone.{Zone}
use Rattle.fab_config.specs.declared.ZoneSet.{ZoneSet}
use Rattle.fab_config.specs.declared.Activation.{Activation}

pub record ZoneRules : Type 0 where
  pub zones : List Zone
  pub sets : List ZoneSet
  pub activations : List Activation
