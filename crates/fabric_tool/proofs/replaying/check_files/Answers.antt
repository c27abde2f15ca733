use Rattle.std.proofs.Common.{ℕ, List, sym, subst}
use Rattle.fab_replay.proofs.ResultLemmas.{err_is}
use Rattle.fabric_tool.specs.Checking.{HasGiven, IsChecked, command_of}
use Rattle.fabric_tool.specs.Command.{names_of}
use Rattle.fabric_tool.proofs.ShowLemmas.{given_ended}
use Rattle.fabric_tool.proofs.TouchLemmas.{own_then, given_own}
use Rattle.fabric_tool.proofs.replaying.check_files.Goals as goal

pub returns-in_err-config : goal.returns-in_err-config
returns-in_err-config g c =
    let seen = g.D.Depot.seen in
    let a = seen c.args.depot.now in
    let d = seen c.config_and_journal.new.depot in
    record {
      checks = subst (IsChecked c.args.width (names_of c.args.width c.args.words.now) a d) (err_is c.from_residual.result _ c.from_residual.ensures.1)
          (given_ended c.args.width c.args.words.now c.requires.ports a d c.in_err-config.field-0.0 c.in_err-config.ensures.reads);
      touches = given_own c.args.width c.args.words.now _ _ c.in_err-config.ensures.reads.uses;
    }

pub returns : goal.returns
returns g c =
    let seen = g.D.Depot.seen in
    record {
      checks = c.check.ensures.checks (seen c.args.depot.now)
          (subst (λ (l : List ℕ). HasGiven (names_of c.args.width c.args.words.now) c.in_ok-config.config l (seen c.args.depot.now) (seen c.config_and_journal.new.depot)) (sym c.deref.ensures.value) c.in_ok-config.ensures.reads.given);
      touches = own_then (command_of c.args.width (names_of c.args.width c.args.words.now)) _ _ _ (given_own c.args.width c.args.words.now _ _ c.in_ok-config.ensures.reads.uses) c.check.ensures.touches;
    }
