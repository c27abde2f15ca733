use Rattle.std.proofs.Common.{subst}
use Rattle.forward_core.proofs.RefillLemmas.{PastsSoFar, ended_here, pasts_begin, pasts_go_on, unused_here}
use Rattle.forward_core.proofs.restoring.add_pasts.Goals as goal

pub pasts-init : goal.pasts-init
pasts-init c = pasts_begin c.args.past.now c.items-rest.result.now c.args.roster.now c.items-rest.ensures c.requires.awaits c.requires.sound

pub add_past-requires-clause-order : goal.add_past-requires-clause-order
add_past-requires-clause-order c =
    let sofar = subst (λ l. PastsSoFar c.args.past.now l c.args.roster.now c.pasts.roster) c.in-Some.ensures.cases.0 c.pasts.invariant in
    ended_here c.args.past.now c.in-Some.past.now c.in-Some.behind.now c.args.roster.now c.pasts.roster c.requires.awaits sofar

pub add_past-requires-clause-unused : goal.add_past-requires-clause-unused
add_past-requires-clause-unused c =
    let sofar = subst (λ l. PastsSoFar c.args.past.now l c.args.roster.now c.pasts.roster) c.in-Some.ensures.cases.0 c.pasts.invariant in
    unused_here c.args.past.now c.in-Some.past.now c.in-Some.behind.now c.args.roster.now c.pasts.roster c.requires.awaits sofar

pub pasts-preserved : goal.pasts-preserved
pasts-preserved c =
    let sofar = subst (λ l. PastsSoFar c.args.past.now l c.args.roster.now c.pasts.roster) c.in-Some.ensures.cases.0 c.pasts.invariant in
    pasts_go_on c.args.past.now c.in-Some.past.now c.in-Some.behind.now c.args.roster.now c.pasts.roster c.requires.awaits sofar c.add_past.new.roster c.add_past.ensures.change c.add_past.ensures.sound
