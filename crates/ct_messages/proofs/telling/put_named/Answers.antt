use Rattle.std.proofs.Common.{◌∙◌, sym, ap, eqb, ◌+◌, if◌then◌else◌, arith}
use Rattle.ct_messages.specs.Answer.{named_entry}
use Rattle.ct_messages.proofs.Entries.{entry_more}
use Rattle.ct_messages.proofs.telling.put_named.Goals as goal

pub loop-index-preserved : goal.loop-index-preserved
loop-index-preserved c = record {
  bytes = entry_more named_entry c.args.list.now c.loop-index.index c.in-Some.entry.now (sym c.in-Some.ensures) c.args.bytes.now.items c.loop-index.bytes.items c.put_entry.new.bytes.items c.control.result
      c.loop-index.invariant.bytes (c.control.ensures ∙ ap (λ n. if eqb (c.loop-index.index + 1) n then 0x80 else 0) c.len.ensures) c.in_ok-put_entry.ensures.bytes;
  size = omega (arith, c.in_ok-put_entry.ensures.size);
}
