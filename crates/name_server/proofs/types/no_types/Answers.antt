use Rattle.std.proofs.Common.{◌/◌, ◌+◌, ap, arith, length}
use Rattle.std.proofs.lemmas.List.{length_push}
use Rattle.std.proofs.lemmas.List.Elements.{All-push}
use Rattle.name_server.proofs.TypeLemmas.{IsBlank, blank_bits, blank_wide}
use Rattle.name_server.proofs.types.no_types.Goals as goal

pub loop-init : goal.loop-init
loop-init c = record {
  count = omega (arith, c.in_ok-rows.ensures.len);
  blank = rw c.in_ok-rows.ensures.items (λ i d lt. absurd (omega (arith, lt)));
}

pub loop-preserved : goal.loop-preserved
loop-preserved c = record {
  count = omega (arith, ap length c.in_ok-push.ensures.items, length_push c.loop.rows.items c.in_ok-empty_row.field-0, c.loop.invariant.count);
  blank = rw c.in_ok-push.ensures.items (All-push (IsBlank (c.args.places / 64 + 1)) c.loop.rows.items c.in_ok-empty_row.field-0 c.loop.invariant.blank (c.in_ok-empty_row.ensures.bits, c.in_ok-empty_row.ensures.words));
}

pub returns-clause-bits : goal.returns-clause-bits
returns-clause-bits c = blank_bits (c.args.places / 64 + 1) c.loop.rows.items c.loop.invariant.blank

pub returns-clause-wide : goal.returns-clause-wide
returns-clause-wide c = blank_wide (c.args.places / 64 + 1) c.loop.rows.items c.loop.invariant.blank (omega (arith, c.loop.invariant.count, c.loop-test.false, c.loop.auto.counter-end))
