use Rattle.std.proofs.Common.{◌+◌, ℕ, List, arith, false, sym, ap, ◌∙◌, subst}
use Rattle.fab_turn.specs.Lock.{given}
use Rattle.fab_turn.specs.Views.{has_port}
use Rattle.fab_shared.specs.Workers.{AreHired}
use Rattle.fab_shared.specs.declared.worker.Worker.{Worker}
use Rattle.fab_shared.proofs.HiringLemmas.{hired_more}
use Rattle.fab_shared.proofs.crew.hire_for.Goals as goal

pub split-pass-requires-clause-root : goal.split-pass-requires-clause-root
split-pass-requires-clause-root c = c.requires.hired.2.root_is

pub split-pass-requires-clause-new_port : goal.split-pass-requires-clause-new_port
split-pass-requires-clause-new_port c = ap (λ (p : ℕ). has_port p (given c.args.root.now)) c.at-port.ensures ∙ c.requires.hired.2.free (c.args.place + 1) (omega arith)

pub push_reserved-requires : goal.push_reserved-requires
push_reserved-requires c = let len = c.args.workers.now.ok.0 in let few = c.requires.hired.2.few in let room = c.requires.place.1 in omega arith

pub returns-then-not-is_empty-clause-hired : goal.returns-then-not-is_empty-clause-hired
returns-then-not-is_empty-clause-hired c = λ shelves at so_far.
    let s = c.split-pass.ensures in
    let w : Worker = record { pass = c.split-pass.result; port = c.at-port.result; refused = false } in
    subst (λ (ws : List Worker). AreHired c.args.shared.now shelves (c.args.place + 1) c.split-pass.new.root ws) (sym c.push_reserved.ensures.items)
    (hired_more c.args.shared.now shelves c.args.place c.args.root.now c.args.workers.now.items so_far c.args.shelf.now at c.split-pass.new.root w s.root s.lists.1 s.lists.2 c.at-port.ensures s.pass s.new_lists.1)
