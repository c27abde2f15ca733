use Rattle.std.proofs.Common.{◌∙◌, length, ap, subst}
use Rattle.side_runs.specs.Bridged.{RunsOver}
use Rattle.side_runs.specs.Sides.{side_count, input_at, ins_of, outs_of}
use Rattle.run_files.proofs.NameLemmas.{length-counted}
use Rattle.side_runs.proofs.RunLemmas.{bridges_over, bridges_stopped}
use Rattle.side_runs.proofs.bridge_run.run_bridge.Goals as goal

pub run_over-requires-clause-count : goal.run_over-requires-clause-count
run_over-requires-clause-count g c = ap length c.as_slice.ensures.value ∙ c.in_ok-ins.ensures.reads.are.count ∙ length-counted (input_at c.args.sides.now) 0 (side_count c.args.sides.now)

pub returns : goal.returns
returns g c =
    let seen = g.D.Depot.seen in
    let a = seen c.args.depot.now in
    let b = seen c.read_captures.new.depot in
    let d = seen c.run_over.new.depot in
    let outs = outs_of c.args.sides.now in
    record {
      bridges = bridges_over (ins_of c.args.sides.now) outs c.args.budget c.args.config.now a b c.what_is_taken_are_captures.ensures c.in_ok-ins.ins c.in_ok-ins.ensures.reads d c.run_over.result
          (subst (λ l. RunsOver outs l c.args.config.now b d c.run_over.result) c.as_slice.ensures.value c.run_over.ensures);
    }

pub returns-in_err-ins : goal.returns-in_err-ins
returns-in_err-ins g c =
    let seen = g.D.Depot.seen in
    record {
      bridges = bridges_stopped (ins_of c.args.sides.now) (outs_of c.args.sides.now) c.args.budget c.args.config.now (seen c.args.depot.now) (seen c.read_captures.new.depot) c.from_residual.result c.in_err-ins.field-0.0 c.from_residual.ensures.1 c.in_err-ins.ensures.reads;
    }
