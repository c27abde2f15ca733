use Rattle.std.proofs.Common.{◌≡◌, ◌∙◌, List, sym, subst}
use Rattle.fab_base.specs.Keyed.{without}
use Rattle.fab_base.proofs.KeyedLemmas as keyed
use Rattle.fip_snoop.specs.Maps.{mac_number, enode_number, bindings_of, AreKept}
use Rattle.fip_snoop.specs.declared.bindings.Binding.{Binding}
use Rattle.fip_snoop.proofs.EnodeLemmas.{left_of}
use Rattle.fip_snoop.proofs.BindingLemmas.{AreKept-taken, left_at}
use Rattle.fip_snoop.proofs.bindings.Bindings.take.Goals as goal

pub invariant_of-self : goal.invariant_of-self
invariant_of-self c =
    let macs = c.self.inside.by_mac in
    let enodes = bindings_of c.self.inside.by_enode in
    subst (λ (l : List Binding). AreKept c.take.new.self l) (sym (left_of c.enode_rank.result (enode_number c.in-Some.binding) c.self.inside.by_enode _ c.enode_rank.ensures.value c.take-in-Some.ensures.items))
    (subst (λ (l : List Binding). AreKept l (without enode_number (enode_number c.in-Some.binding) enodes)) (sym c.take.ensures.items)
    (AreKept-taken macs enodes c.self.invariant c.mac_rank.result c.in-Some.binding (sym c.take.ensures.item ∙ c.in-Some.is)))

gone : (c : goal.In-None) → c.take.new.self ≡ c.self.inside.by_mac
gone c = c.take.ensures.items ∙ keyed.without-absent mac_number c.mac_rank.result c.self.inside.by_mac (sym c.take.ensures.item ∙ c.in-None.is)

pub invariant_of-self-in-None : goal.invariant_of-self-in-None
invariant_of-self-in-None c = subst (λ (l : List Binding). AreKept l (bindings_of c.self.inside.by_enode)) (sym (gone c)) c.self.invariant

pub returns-in-Some : goal.returns-in-Some
returns-in-Some c = left_at c.self.inside.by_mac c.args.self.now c.args.mac.now c.mac_rank.result _ c.self.invariant.whole c.mac_rank.ensures.mac c.mac_rank.ensures.value c.self.view_is c.take.ensures.items

pub returns-in-None : goal.returns-in-None
returns-in-None c = left_at c.self.inside.by_mac c.args.self.now c.args.mac.now c.mac_rank.result _ c.self.invariant.whole c.mac_rank.ensures.mac c.mac_rank.ensures.value c.self.view_is c.take.ensures.items
