use Rattle.std.proofs.Common.{◌≡◌, ◌∙◌, ℕ, ◌<◌, [], Some, false, length, ap, sym, subst}
use Rattle.fab_base.specs.Slots.{name_of}
use Rattle.fip_snoop.specs.Bridge.{arrivals, is_too_long}
use Rattle.fip_snoop.specs.Messages.{forwarder_of}
use Rattle.run_files.specs.Outputs.{AreOutputs}
use Rattle.side_runs.specs.State.{Crosses}
use Rattle.side_runs.proofs.RunLemmas.{over_memory, over_unopened, over_crossed, opened_outputs, opened_count, opened_empty, own_crosses}
use Rattle.side_runs.proofs.bridge_run.run_over.Goals as goal

pub returns-in-Err : goal.returns-in-Err
returns-in-Err g c = over_memory c.args.sides.now c.args.ins.now c.args.config.now (g.D.Depot.seen c.args.depot.now) (sym c.is_too_long.ensures ∙ c.if-is_too_long.false)

pub returns-in-Err-open_outputs : goal.returns-in-Err-open_outputs
returns-in-Err-open_outputs g c =
    let seen = g.D.Depot.seen in
    let short : is_too_long (arrivals c.args.ins.now) ≡ false = sym c.is_too_long.ensures ∙ c.if-is_too_long.false in
    over_unopened c.args.sides.now c.args.ins.now c.args.config.now (seen c.args.depot.now) (seen c.open_outputs.new.depot) c.in-Err-open_outputs.field-0 short c.in-Err-open_outputs.ensures.opens

pub cross-requires-clause-count : goal.cross-requires-clause-count
cross-requires-clause-count g c =
    let seen = g.D.Depot.seen in
    let b = seen c.open_outputs.new.depot in
    ap length c.as_slice.ensures.value ∙ opened_count c.args.sides.now c.args.ins.now c.args.config.now (seen c.args.depot.now) b b c.in-Ok-open_outputs.outs c.requires.different c.in-Ok-open_outputs.ensures.opens ∙ sym c.requires.count

pub cross-requires-clause-outputs : goal.cross-requires-clause-outputs
cross-requires-clause-outputs g c =
    let seen = g.D.Depot.seen in
    let b = seen c.open_outputs.new.depot in
    subst (AreOutputs b) (sym c.as_slice.ensures.value) (opened_outputs c.args.sides.now c.args.ins.now c.args.config.now (seen c.args.depot.now) b b c.in-Ok-open_outputs.outs c.requires.different c.in-Ok-open_outputs.ensures.opens)

pub cross-requires-clause-empty : goal.cross-requires-clause-empty
cross-requires-clause-empty g c = λ told.
    let seen = g.D.Depot.seen in
    let b = seen c.open_outputs.new.depot in
    subst (λ l. (q : ℕ) → q < length l → b.file (name_of b l q) ≡ Some []) (sym c.as_slice.ensures.value)
    (opened_empty c.args.sides.now c.args.ins.now c.args.config.now (seen c.args.depot.now) b b c.in-Ok-open_outputs.outs c.requires.different c.in-Ok-open_outputs.ensures.opens told)

pub returns : goal.returns
returns g c =
    let seen = g.D.Depot.seen in
    let b = seen c.open_outputs.new.depot in
    let d = seen c.cross.new.depot in
    let ins = c.args.ins.now in
    let slots = c.in-Ok-open_outputs.outs in
    let w = forwarder_of c.args.config.now in
    let short : is_too_long (arrivals ins) ≡ false = sym c.is_too_long.ensures ∙ c.if-is_too_long.false in
    over_crossed c.args.sides.now ins c.args.config.now (seen c.args.depot.now) b d slots c.requires.different c.in-Ok-open_outputs.ensures.opens c.cross.result short
    (own_crosses w (length ins) c.in-Ok.bridge ins slots.items b d c.cross.result c.in-Ok.ensures (subst (λ l. Crosses c.in-Ok.bridge.snoop.forwarder ins l b d c.cross.result) c.as_slice.ensures.value c.cross.ensures.crosses))
