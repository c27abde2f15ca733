use Rattle.std.proofs.Common.{◌≡◌, ◌++◌, take, drop}
use Rattle.forward_core.proofs.kept.set_features.Given as goal

abbrev pub invariant-loop-kind : goal.invariant-loop-kind
invariant-loop-kind l = l.values ≡ record l.fn.values { features = take l.kind l.fn.features ++ drop l.kind l.fn.values.features }
