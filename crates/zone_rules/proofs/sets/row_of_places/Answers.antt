use Rattle.std.proofs.Common.{◌∙◌, sym, ap, arith}
use Rattle.std.specs.Option.{option_copied}
use Rattle.sorted_lists.specs.Row.{has}
use Rattle.zone_rules.proofs.JoinLemmas.{at_some}
use Rattle.sorted_lists.proofs.RowLemmas.{has-none}
use Rattle.zone_rules.proofs.SetLemmas.{place_in, place_out}
use Rattle.zone_rules.proofs.sets.row_of_places.Goals as goal
use Rattle.zone_rules.proofs.sets.row_of_places.Goals.{then-place-zones+in_ok-set_bit, else-place-zones}

pub loop-index-init : goal.loop-index-init
loop-index-init c = λ q lt. ap (λ l. has l q) c.new-row.ensures.items ∙ has-none q

pub unwrap-requires : goal.unwrap-requires
unwrap-requires c = at_some c.args.places.now c.loop-index.index c.at.result c.at.ensures (omega (arith, c.loop-index-test.true, c.len-index-end.ensures))

pub loop-index-preserved : goal.loop-index-preserved
loop-index-preserved c =
    let there = sym c.at.ensures ∙ ap option_copied c.unwrap.ensures in
    elim c.if-place-zones.branch [
      | then-place-zones+in_ok-set_bit w ↦ λ q lt. place_in q c.loop-index.index c.unwrap.result.now c.args.places.now _ _ there (c.loop-index.invariant q lt) (ap (λ v. has v.items q) w.row-is ∙ w.in_ok-set_bit.ensures.ok q)
      | else-place-zones w ↦ λ q lt. ap (λ v. has v.items q) w.row-is ∙ place_out c.args.zones q c.loop-index.index c.unwrap.result.now c.args.places.now _ there lt w.if-place-zones.false (c.loop-index.invariant q lt)
    ]
