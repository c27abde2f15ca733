use Rattle.std.proofs.Common.{◌∙◌, ◌==◌, ◌&&◌, ◌||◌, sym, ap, arith}
use Rattle.std.specs.Option.{option_copied}
use Rattle.zone_rules.specs.Joined.{contains}
use Rattle.sorted_lists.proofs.RowLemmas.{has-none}
use Rattle.zone_rules.proofs.JoinLemmas.{lists_more}
use Rattle.zone_rules.proofs.index.index_of.Goals as goal

pub loop-index-preserved : goal.loop-index-preserved
loop-index-preserved c = λ x q.
    c.in_ok-add_zone.ensures x q ∙ ap (λ b. (c.loop-index.index == q && contains x c.unwrap.result.now.members) || b) (c.loop-index.invariant x q)
    ∙ sym (lists_more x q c.loop-index.index c.args.zones.now c.unwrap.result.now (let n = c.len-index-end.ensures in let t = c.loop-index-test.true in omega (arith, n, t)) (sym c.at.ensures ∙ ap option_copied c.unwrap.ensures))

pub loop-index-init : goal.loop-index-init
loop-index-init c = λ x q. simp c.new-rows.ensures.empty (has-none q)
