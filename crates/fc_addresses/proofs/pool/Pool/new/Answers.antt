use Rattle.std.proofs.Common.{arith}
use Rattle.fc_addresses.proofs.PoolLemmas.{pasts_from-replicate}
use Rattle.fc_addresses.proofs.KeptLemmas.{kept_new}
use Rattle.fc_addresses.proofs.pool.Pool.new.Goals as goal

pub invariant_of-result : goal.invariant_of-result
invariant_of-result c =
    rw (c.in_ok-holders.ensures.items_if_clones_equal (λ y same. same), c.in_ok-owners.ensures.items, c.in_ok-line.ensures.items)
    (kept_new c.value.result c.args.count c.in_ok-unused.unused _ _ (λ i lt. omega (arith, c.requires i lt, c.value.ensures.value)) c.in_ok-unused.ensures.bits
    (omega (arith, c.in_ok-unused.ensures.words)) c.in_ok-owners.ensures.capacity c.in_ok-line.ensures.capacity)

pub returns : goal.returns
returns c = rw (c.in_ok-holders.ensures.items_if_clones_equal (λ y same. same), c.value.ensures.value) (pasts_from-replicate c.args.first c.args.count)
