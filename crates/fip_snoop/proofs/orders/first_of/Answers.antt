use Rattle.std.proofs.Common.{◌∙◌, Bool, cond, None, Some, sym, ap}
use Rattle.std.specs.Option.{option_copied}
use Rattle.fip_snoop.proofs.EnodeLemmas.{first_is, its_own}
use Rattle.fip_snoop.proofs.orders.first_of.Goals as goal

pub returns-then-eq : goal.returns-then-eq
returns-then-eq c =
    let b = c.in-Some.kept.now.binding in
    ap (λ (t : Bool). cond t (Some b) None) (sym c.if-eq.true) ∙ its_own c.args.enode.now b c.eq.result c.eq.ensures
    ∙ first_is c.args.enode.now c.args.from c.args.by_enode.now (Some c.in-Some.kept.now) (sym (ap option_copied c.in-Some.is) ∙ c.next.ensures.item)

pub returns-else-eq : goal.returns-else-eq
returns-else-eq c =
    let b = c.in-Some.kept.now.binding in
    ap (λ (t : Bool). cond t (Some b) None) (sym c.if-eq.false) ∙ its_own c.args.enode.now b c.eq.result c.eq.ensures
    ∙ first_is c.args.enode.now c.args.from c.args.by_enode.now (Some c.in-Some.kept.now) (sym (ap option_copied c.in-Some.is) ∙ c.next.ensures.item)

pub returns-in-None : goal.returns-in-None
returns-in-None c = first_is c.args.enode.now c.args.from c.args.by_enode.now None (sym (ap option_copied c.in-None.is) ∙ c.next.ensures.item)
