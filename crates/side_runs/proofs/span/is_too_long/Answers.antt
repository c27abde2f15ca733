use Rattle.std.proofs.Common.{◌∙◌, ◌+◌, min, max, nat_lt, length, drop, refl, sym, ap}
use Rattle.std.proofs.lemmas.Option.{slice_get_read}
use Rattle.fip_snoop.specs.Bridge.{arrivals_from}
use Rattle.side_runs.proofs.SpanLemmas.{spread, spread_next, spread_end, span_is}
use Rattle.side_runs.proofs.span.is_too_long.Goals as goal

pub loop-records-init : goal.loop-records-init
loop-records-init c = refl

pub loop-records-preserved : goal.loop-records-preserved
loop-records-preserved c =
    let ins = c.args.ins.now in
    let k = c.loop-records.records-index in
    let rs = c.records-item.result in
    let lo = c.loop-records.least in
    let hi = c.loop-records.greatest in
    let at = slice_get_read ins (length ins) k rs refl c.loop-records-test.true c.records-item.is in
    let low = c.min-least.ensures ∙ ap (min lo) c.first_of.ensures in
    let high = c.greater-greatest.ensures ∙ ap (max hi) c.last_of.ensures in
    (λ i. spread (low i) (high i) (arrivals_from (k + 1 + 1) (drop (k + 1) ins)))
    ∙ sym (spread_next ins k rs lo hi c.requires.ascend at) ∙ c.loop-records.invariant

pub returns : goal.returns
returns c =
    ap (nat_lt 21600000)
    (c.saturating_sub.ensures
    ∙ sym (spread_end c.args.ins.now c.loop-records.records-index (c.loop-records.records-index + 1) c.loop-records.least c.loop-records.greatest c.loop-records-test.false)
    ∙ c.loop-records.invariant)
    ∙ sym (span_is c.args.ins.now c.requires.fit)
