-- `make` of any number and names: it is complete over any store, and never refused.
use Rattle.std.specs.Prelude.{◌≡◌, List, [], Some, String, refl}
use Rattle.std.proofs.Common.{arith}
use Rattle.std.specs.declared.alloc.Global.{Global}
use Rattle.fab_base.specs.Seen.{Seen}
use Rattle.fabric_tool.specs.Command.{MakeNames, Make, command}
use Rattle.fabric_tool.specs.Ends.{Holds}
use Rattle.fabric_tool.specs.Outcome.{status_of}
use Rattle.fabric_tool.specs.Statuses.{IsComplete, IsNamed, IsRefused, HasForms}
use Rattle.fabric_tool.specs.declared.outcome.Outcome.{Outcome}
use Rattle.fabric_tool.specs.declared.outcome.Outcome.TheVariants as ends
use Rattle.command_examples.specs.Store.{holding, said, quiet}

module _ (words : List (String Global)) (k : MakeNames) (is : command words ≡ Some (Make k)) where
  pub make_is_complete : IsComplete words (holding []) (holding []) (said []) (said [])
  make_is_complete = record { k = Make k; is = is; forms = tt; quiet = quiet (Make k) [] [] [] [] }

  -- a load has 20,000 frames
  pub make_is_named : IsNamed words (ends.Made 20000) (holding []) (holding []) (said []) (said [])
  make_is_named = record { k = Make k; is = is; told = refl; says = refl; quiet = quiet (Make k) [] [] [] [] }

-- no input has a form to keep, whatever the store
pub make_has_forms : (k : MakeNames) (d : Seen) → HasForms (Make k) d
make_has_forms k d = tt

-- no outcome of `make` has status 1
pub make_is_never_refused : (k : MakeNames) (old new : Seen) → IsRefused (Make k) old new → ⊥
make_is_never_refused k old new refused = go refused.0 refused.1 refused.2
  where
    go : (o : Outcome) → status_of o ≡ 1 → Holds (Make k) old new o → ⊥
    go (ends.Made frames) one holds = absurd (omega arith)
    go o one holds = absurd (omega arith)
