use Rattle.std.proofs.Common.{◌∙◌, Option, sym, ap}
use Rattle.fip_snoop.specs.Maps.{bindings_of, forgotten}
use Rattle.fip_snoop.specs.declared.bindings.Binding.{Binding}
use Rattle.fip_snoop.proofs.EnodeLemmas.{forgotten_of}
use Rattle.fip_snoop.proofs.orders.forget.Goals as goal

pub returns-then-rank-enode_rank : goal.returns-then-rank-enode_rank
returns-then-rank-enode_rank c =
    forgotten_of c.args.binding.now c.in-Some.old c.enode_rank-rank.result c.args.by_enode.now c.take.new.self c.enode_rank-rank.ensures.value
    (λ e. c.if-rank-enode_rank.true (c.enode_rank-rank.ensures.value ∙ e ∙ sym c.enode_rank.ensures.value)) c.take.ensures.items
    ∙ ap (λ (o : Option Binding). forgotten c.args.binding.now o (bindings_of c.args.by_enode.now)) (sym c.in-Some.is)
