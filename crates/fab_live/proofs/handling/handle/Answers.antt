use Rattle.fab_live.proofs.handling.handle.Goals as goal

pub returns : goal.returns
returns c =
    let drain = c.drain-drained.ensures in
    record {
      handles = λ m. record {
        ticked = c.tick_to.new.fabric;
        handled = c.take_frame.new.fabric;
        ticks = c.in_ok-tick_to.ensures.ticked;
        frame = c.in_ok-_verdict.ensures.handled m;
        one = c.in_ok-_verdict.ensures.one;
        after = drain.fabric;
        events_ = drain.events;
        outs_ = drain.outs;
        ranged = drain.ranged;
      };
    }
