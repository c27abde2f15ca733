use Rattle.std.proofs.Common.{◌∙◌, None, Some, nat_lt, sym, ap}
use Rattle.std.specs.Option.{option_copied}
use Rattle.fip_snoop.specs.Maps.{enode_number, bindings_of}
use Rattle.fip_snoop.proofs.EnodeLemmas.{ascend_of, next_of}
use Rattle.fip_snoop.proofs.KeyLemmas.{between-some, between-none}
use Rattle.fip_snoop.proofs.orders.has_between.Goals as goal

pub returns-in-Some : goal.returns-in-Some
returns-in-Some c =
    let kept = c.args.by_enode.now in
    ap (λ n. nat_lt n c.args.to) c.rank.ensures.value
    ∙ between-some enode_number c.args.from c.args.to 0 (bindings_of kept) c.in-Some.kept.now.binding (ascend_of 0 kept c.next.ensures.ascend)
    (next_of kept c.args.from (Some c.in-Some.kept.now) (sym (ap option_copied c.in-Some.is) ∙ c.next.ensures.item))

pub returns-in-None : goal.returns-in-None
returns-in-None c =
    let kept = c.args.by_enode.now in
    between-none enode_number c.args.from c.args.to (bindings_of kept) (next_of kept c.args.from None (sym (ap option_copied c.in-None.is) ∙ c.next.ensures.item))
