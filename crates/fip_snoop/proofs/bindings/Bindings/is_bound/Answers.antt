use Rattle.std.proofs.Common.{◌∙◌, Some, None, sym, ap}
use Rattle.std.specs.Option.{option_copied}
use Rattle.fip_snoop.specs.Maps.{bindings_of}
use Rattle.fip_snoop.proofs.BindingLemmas.{bound_is, found_at}
use Rattle.sorted_lists.proofs.IndexLemmas.{none_some, some_same}
use Rattle.fip_snoop.proofs.bindings.Bindings.is_bound.Goals as goal

pub returns-in-Some-clause-bound : goal.returns-in-Some-clause-bound
returns-in-Some-clause-bound c same =
    bound_is c.self.inside.by_mac (bindings_of c.self.inside.by_enode) c.args.self.now c.mac_rank.result c.in-Some.found.now c.args.binding.now c.self.invariant c.mac_rank.ensures.mac c.mac_rank.ensures.value c.self.view_is
    (sym (ap option_copied c.in-Some.is) ∙ c.find.ensures.item) (c.are_same.ensures.same same)

pub returns-in-Some-clause-other : goal.returns-in-Some-clause-other
returns-in-Some-clause-other c differs same =
    let at = found_at c.self.inside.by_mac c.args.self.now c.args.binding.now.mac c.mac_rank.result (Some c.in-Some.found.now) c.self.invariant.whole c.mac_rank.ensures.mac c.mac_rank.ensures.value c.self.view_is
    (sym (ap option_copied c.in-Some.is) ∙ c.find.ensures.item) in
    c.are_same.ensures.other differs (some_same c.in-Some.found.now c.args.binding.now (at ∙ same))

pub returns-in-None-clause-other : goal.returns-in-None-clause-other
returns-in-None-clause-other c differs same =
    let at = found_at c.self.inside.by_mac c.args.self.now c.args.binding.now.mac c.mac_rank.result None c.self.invariant.whole c.mac_rank.ensures.mac c.mac_rank.ensures.value c.self.view_is
    (sym (ap option_copied c.in-None.is) ∙ c.find.ensures.item) in
    none_some c.args.binding.now (at ∙ same)
