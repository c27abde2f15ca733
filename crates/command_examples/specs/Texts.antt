-- `--help` and `--version`, whose premises any store meets.
use Rattle.std.specs.Prelude.{◌≡◌, List, [], Some, String, refl}
use Rattle.std.proofs.Common.{arith}
use Rattle.std.specs.declared.alloc.Global.{Global}
use Rattle.fab_base.specs.Seen.{Seen}
use Rattle.fabric_tool.specs.Command.{Help, Version, command}
use Rattle.fabric_tool.specs.Ends.{Holds}
use Rattle.fabric_tool.specs.Outcome.{status_of}
use Rattle.fabric_tool.specs.Statuses.{IsComplete, IsNamed, IsRefused}
use Rattle.fabric_tool.specs.declared.outcome.Outcome.{Outcome}
use Rattle.fabric_tool.specs.declared.outcome.Outcome.TheVariants as ends
use Rattle.command_examples.specs.Store.{holding, said, quiet}

module _ (words : List (String Global)) where
  pub help_is_complete : command words ≡ Some Help → IsComplete words (holding []) (holding []) (said []) (said [])
  help_is_complete is = record { k = Help; is = is; forms = tt; quiet = quiet Help [] [] [] [] }

  pub help_is_named : command words ≡ Some Help → IsNamed words ends.Help (holding []) (holding []) (said []) (said [])
  help_is_named is = record { k = Help; is = is; told = refl; says = refl; quiet = quiet Help [] [] [] [] }

  pub version_is_complete : command words ≡ Some Version → IsComplete words (holding []) (holding []) (said []) (said [])
  version_is_complete is = record { k = Version; is = is; forms = tt; quiet = quiet Version [] [] [] [] }

  pub version_is_named : command words ≡ Some Version → IsNamed words ends.Version (holding []) (holding []) (said []) (said [])
  version_is_named is = record { k = Version; is = is; told = refl; says = refl; quiet = quiet Version [] [] [] [] }

-- neither is refused: neither ends by an outcome of status 1
pub help_is_never_refused : (old new : Seen) → IsRefused Help old new → ⊥
help_is_never_refused old new refused = go refused.0 refused.1 refused.2
  where
    go : (o : Outcome) → status_of o ≡ 1 → Holds Help old new o → ⊥
    go ends.Help one holds = absurd (omega arith)
    go o one holds = absurd (omega arith)

pub version_is_never_refused : (old new : Seen) → IsRefused Version old new → ⊥
version_is_never_refused old new refused = go refused.0 refused.1 refused.2
  where
    go : (o : Outcome) → status_of o ≡ 1 → Holds Version old new o → ⊥
    go ends.Version one holds = absurd (omega arith)
    go o one holds = absurd (omega arith)
