use Rattle.std.proofs.Common.{◌≡◌, ◌∙◌, ◌-◌, Some, slice_get, arith, ap, sym}
use Rattle.std.specs.Option.{option_copied}
use Rattle.side_runs.proofs.SpanLemmas.{last_at, last_none}
use Rattle.side_runs.proofs.span.last_of.Goals as goal

pub returns-in-Some : goal.returns-in-Some
returns-in-Some c =
    let at : slice_get c.args.records.now (c.len-count.result - 1) ≡ Some c.in-Some.record.now = sym c.at.ensures ∙ ap option_copied c.in-Some.is in
    c.moment_of.ensures ∙ last_at 0 c.args.records.now (c.len-count.result - 1) c.in-Some.record.now at (omega (arith, c.len-count.ensures, c.if-count-eq0.false))

pub returns-in-None : goal.returns-in-None
returns-in-None c = last_none 0 c.args.records.now (c.len-count.result - 1) (sym c.at.ensures ∙ ap option_copied c.in-None.is) (omega (arith, c.len-count.ensures, c.if-count-eq0.false))
