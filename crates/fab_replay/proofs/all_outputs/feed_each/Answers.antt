use Rattle.std.proofs.Common.{◌∙◌, ◌<◌, arith, length}
use Rattle.std.proofs.lemmas.Option.{slice_get-get_or}
use Rattle.fab_replay.proofs.EachLemmas.{feed_more, feed_failed, feed_all_of, page-item}
use Rattle.fab_replay.proofs.all_outputs.feed_each.Goals as goal

pub returns-in-Err : goal.returns-in-Err
returns-in-Err g c =
    let seen = g.D.Depot.seen in
    let within : c.loop-port.port < length c.loop-port.all = let t = c.loop-port-test.true in let n = c.requires.count in let a = c.loop-port.auto.all in omega arith in
    let paged : c.loop-port.port < length c.args.pages.now = let t = c.loop-port-test.true in let n = c.requires.count in omega arith in
    record {
      feeds = feed_failed c.args.slots.now c.args.pages.now c.loop-port.port (seen c.args.depot.now) (seen c.loop-port.depot) (seen c.feed.new.depot) c.args.all.now c.loop-port.all c.requires.inputs c.requires.count.0 c.loop-port-test.true c.loop-port.invariant _ c.feed.new.self
          (slice_get-get_or c.loop-port.all c.loop-port.port _ within) c.deref.result.now c.in-Err.failed (c.deref.ensures.value ∙ page-item c.args.pages.now c.loop-port.port c.index-pages-port.result paged c.index-pages-port.is) c.in-Err.ensures.feeds;
    }

pub loop-port-preserved : goal.loop-port-preserved
loop-port-preserved g c =
    let seen = g.D.Depot.seen in
    let within : c.loop-port.port < length c.loop-port.all = let t = c.loop-port-test.true in let n = c.requires.count in let a = c.loop-port.auto.all in omega arith in
    let paged : c.loop-port.port < length c.args.pages.now = let t = c.loop-port-test.true in let n = c.requires.count in omega arith in
    feed_more c.args.slots.now c.args.pages.now c.loop-port.port (seen c.args.depot.now) (seen c.loop-port.depot) (seen c.feed.new.depot) c.args.all.now c.loop-port.all c.requires.inputs c.requires.count.0 c.loop-port-test.true c.loop-port.invariant _ c.feed.new.self
    (slice_get-get_or c.loop-port.all c.loop-port.port _ within) c.deref.result.now (c.deref.ensures.value ∙ page-item c.args.pages.now c.loop-port.port c.index-pages-port.result paged c.index-pages-port.is) c.in-Ok.ensures.feeds

pub returns : goal.returns
returns g c =
    let seen = g.D.Depot.seen in
    record { feeds = feed_all_of c.args.slots.now c.args.pages.now c.loop-port.port (seen c.args.depot.now) (seen c.loop-port.depot) c.args.all.now c.loop-port.all c.requires.count.0 c.loop-port-test.false c.loop-port.invariant }
