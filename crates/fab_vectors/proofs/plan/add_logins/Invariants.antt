use Rattle.std.proofs.Common.{◌≡◌, ◌++◌}
use Rattle.fab_vectors.specs.Names.{numbered}
use Rattle.fab_vectors.specs.declared.frame.LoadFrame.TheVariants.{Login}
use Rattle.fab_vectors.proofs.plan.add_logins.Given as goal

abbrev pub invariant-loop-login : goal.invariant-loop-login
invariant-loop-login l = l.frames.items ≡ l.fn.frames.items ++ numbered (λ login. Login l.step login) 0 l.login
