use Rattle.std.proofs.Common.{◌+◌, ◌%◌, ◌∙◌, ap}
use Rattle.fab_policy.specs.State.{overdue}
use Rattle.fab_roster.specs.Roll.{addresses_of}
use Rattle.fab_sending.specs.Clearing.{clears}
use Rattle.fab_sending.specs.Messages.{at_moment}
use Rattle.fab_sending.specs.Sends.{state_before}
use Rattle.fab_sending.proofs.ClearMade.{clears_same}
use Rattle.fab_sending.proofs.Counting.{addresses_same}
use Rattle.fab_sending.proofs.Joining.{in_pool, sends_of, tick_sent}
use Rattle.fab_sending.proofs.tick.tick_sends.Goals as goal

pub returns-clause-sent : goal.returns-clause-sent
returns-clause-sent c = λ events.
    let b = c.args.before.now in
    let config = b.config.now in
    let ports = overdue config b.roster.now.tables c.args.moment in
    tick_sent c.ticks_send.ensures c.ticks_tell.ensures config b.ports (state_before b) c.args.moment (addresses_of c.args.ended.now) events
    (sends_of c.append-2.new.self c.rscns_after-rscns.result) c.in_ok-outs.outs c.in_ok-changes.changes c.in_ok-advertised.advertised c.append.new.self
    (in_pool config _ _ b.roster.now.tables.ports b.lowest b.pool c.len.ensures.sound.ascending) (ap addresses_of c.requires ∙ addresses_same ports)
    (c.in_ok-outs.ensures.made ∙ ap (at_moment c.args.moment) (ap (clears config) c.requires ∙ clears_same config ports))
    c.in_ok-changes.ensures c.in_ok-advertised.ensures.made c.in_ok-append.ensures.ok c.in_ok-append-2.ensures.ok
    (c.rscns_after-rscns.ensures.count ∙ ap (λ n. (b.rscns + n) % 65535) c.len-2.ensures)
    (c.in_ok-outs.ensures.sendable events) (c.in_ok-advertised.ensures.sendable events)
