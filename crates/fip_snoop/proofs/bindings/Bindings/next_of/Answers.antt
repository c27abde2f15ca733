use Rattle.std.proofs.Common.{List, IfSome, IfNone, subst}
use Rattle.fip_snoop.specs.Maps.{IsFirst, AreBelow, bindings_of}
use Rattle.fip_snoop.specs.declared.bindings.Binding.{Binding}
use Rattle.fip_snoop.proofs.BindingLemmas.{next_is}
use Rattle.fip_snoop.proofs.bindings.Bindings.next_of.Goals as goal

pub returns-clause-some : goal.returns-clause-some
returns-clause-some c =
    subst (λ (l : List Binding). IfSome c.first_of.result (λ x. IsFirst c.args.enode.now c.args.from l x)) c.self.view_is
    (next_is c.self.inside.by_mac (bindings_of c.self.inside.by_enode) c.self.invariant c.args.enode.now c.args.from c.requires.enode c.requires.from c.first_of.result c.first_of.ensures).0

pub returns-clause-none : goal.returns-clause-none
returns-clause-none c =
    subst (λ (l : List Binding). IfNone c.first_of.result (AreBelow c.args.enode.now c.args.from l)) c.self.view_is
    (next_is c.self.inside.by_mac (bindings_of c.self.inside.by_enode) c.self.invariant c.args.enode.now c.args.from c.requires.enode c.requires.from c.first_of.result c.first_of.ensures).1
