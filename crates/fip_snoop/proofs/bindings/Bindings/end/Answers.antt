use Rattle.std.proofs.Common.{◌+◌, ℕ, ap, arith}
use Rattle.fip_snoop.specs.Maps.{is_ended_by}
use Rattle.fip_snoop.proofs.EndLemmas.{walk_on, walk_ends}
use Rattle.fip_snoop.proofs.GrantLemmas.{ended_own}
use Rattle.fip_snoop.proofs.bindings.Bindings.end.Goals as goal

pub loop-binding-preserved : goal.loop-binding-preserved
loop-binding-preserved c =
    walk_on c.args.enode.now (is_ended_by c.args.enode.now c.args.ending.now) (ended_own c.args.enode.now c.args.ending.now) c.args.self.now c.loop-binding.self c.end_one.new.self c.loop-binding.from (c.enode_rank-from.result + 1) c.in-Some.binding
    c.loop-binding.invariant c.in-Some.ensures.some (omega (arith, c.enode_rank-from.ensures)) (ap (λ (n : ℕ). n + 1) c.enode_rank-from.ensures.value) c.end_one.ensures.ended c.end_one.ensures.stays

pub returns : goal.returns
returns c =
    walk_ends c.args.enode.now (is_ended_by c.args.enode.now c.args.ending.now) (ended_own c.args.enode.now c.args.ending.now) c.args.self.now c.loop-binding.self c.loop-binding.from c.loop-binding.invariant c.in_default.ensures.none
