use Rattle.wire_store.proofs.PortLemmas.{sending_more}
use Rattle.wire_store.proofs.feed.send_wholes.Goals as goal

pub loop-frame-preserved : goal.loop-frame-preserved
loop-frame-preserved g c =
    let acts = g.P.Ports.acts in
    sending_more c.args.port c.args.splitter.now c.loop-frame.splitter c.pass.new.self (acts c.args.devices.now) (acts c.loop-frame.devices) (acts c.send.new.self) c.in-Some.frame.now c.loop-frame.invariant c.in-Some.ensures c.send.ensures.sends c.pass.ensures
