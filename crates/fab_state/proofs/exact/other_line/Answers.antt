use Rattle.std.proofs.Common.{◌≡◌, ◌+◌, ℕ, length, get_or, min, arith}
use Rattle.fab_state.specs.Reading.{line_feeds}
use Rattle.fab_state.proofs.ExactLemmas.{other_differs, other_over, other_same}
use Rattle.fab_state.proofs.exact.other_line.Goals as goal

pub returns-then-written-place : goal.returns-then-written-place
returns-then-written-place c =
    let one = other_differs c.args.written.now c.args.text.now c.loop-place.place (omega arith) (omega arith) c.if-written-place.true in
    let inv = c.loop-place.invariant.0 in
    omega (arith, one, inv)

pub loop-place-preserved : goal.loop-place-preserved
loop-place-preserved c =
    let same = other_same c.args.written.now c.args.text.now c.loop-place.place (omega arith) (omega arith) c.if-written-place.false in
    let feeds = c.feeds_of-line.ensures.value in
    let few = c.feeds_of-line.ensures.few in
    let inv = c.loop-place.invariant.0 in
    let most = c.loop-place.invariant.1 in
    (omega (arith, same, feeds, inv), omega (arith, few, most))

pub returns : goal.returns
returns c =
    let over = other_over c.args.written.now c.args.text.now c.loop-place.place (omega arith) in
    let inv = c.loop-place.invariant.0 in
    omega (arith, over, inv)
