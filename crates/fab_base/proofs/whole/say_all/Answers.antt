use Rattle.std.proofs.Common.{◌≡◌, ◌∙◌, ◌++◌, ◌-◌, sym, ap, subst, arith, append_assoc, length, length-drop, take, drop, IsTrue}
use Rattle.std.proofs.lemmas.List.{take_rest, take_all}
use Rattle.fab_base.proofs.Depots.{take-sum}
use Rattle.fab_base.proofs.whole.say_all.Goals as goal

pub loop-done-preserved : goal.loop-done-preserved
loop-done-preserved g c =
    let i = c.loop-done.invariant in
    let e = c.in_ok-done.ensures.sinks in
    let from = c.args.from.now in
    record {
      told = e.told ∙ i.told;
      rise = omega (arith, e.rise, i.rise);
      counts = e.counts ∙ i.counts;
      bound = omega (arith, e.some, length-drop c.loop-done.done from, ap length (take_rest from c.loop-done.done));
      grown = λ told.
          e.grown (subst IsTrue (sym i.told) told)
          ∙ ap (λ l. l ++ take c.in_ok-done.field-0 (take (length from - c.loop-done.done) (drop c.loop-done.done from))) (i.grown told)
          ∙ append_assoc (g.K.Sink.sunk c.args.say.now).written (take c.loop-done.done from) _
          ∙ ap (λ l. (g.K.Sink.sunk c.args.say.now).written ++ l) (ap (λ l. take c.loop-done.done from ++ take c.in_ok-done.field-0 l) (take_rest from c.loop-done.done) ∙ sym (take-sum from c.loop-done.done c.in_ok-done.field-0));
    }

pub returns : goal.returns
returns g c =
    let i = c.loop-done.invariant in
    let from = c.args.from.now in
    let all : take c.loop-done.done from ≡ from = take_all c.loop-done.done from (omega (arith, c.loop-done-test.false)) in
    record {
      says = record {
        told = i.told;
        rise = i.rise;
        grown = λ told. i.grown told ∙ ap (λ l. (g.K.Sink.sunk c.args.say.now).written ++ l) all;
        part = λ told. (c.loop-done.done, i.grown told);
        cause = tt;
        counts = i.counts;
      };
    }
