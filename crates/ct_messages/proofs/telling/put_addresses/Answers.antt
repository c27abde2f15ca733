use Rattle.std.proofs.Common.{◌∙◌, sym, ap, eqb, ◌+◌, if◌then◌else◌, arith}
use Rattle.ct_messages.specs.Answer.{address_entry}
use Rattle.ct_messages.proofs.Entries.{entry_more}
use Rattle.ct_messages.proofs.telling.put_addresses.Goals as goal

pub loop-index-preserved : goal.loop-index-preserved
loop-index-preserved c = record {
  bytes = entry_more address_entry c.args.list.now c.loop-index.index c.in-Some.address.now (sym c.in-Some.ensures) c.args.bytes.now.items c.loop-index.bytes.items c.put_marked.new.bytes.items c.control.result
      c.loop-index.invariant.bytes (c.control.ensures ∙ ap (λ n. if eqb (c.loop-index.index + 1) n then 0x80 else 0) c.len.ensures) c.in_ok-put_marked.ensures.bytes;
  size = omega (arith, c.in_ok-put_marked.ensures.size);
}
