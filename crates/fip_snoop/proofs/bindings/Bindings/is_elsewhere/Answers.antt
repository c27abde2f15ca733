use Rattle.std.proofs.Common.{◌∙◌, ◌+◌, ℕ, List, ◌^◌, ap, arith}
use Rattle.std.specs.List.{list_any}
use Rattle.fip_snoop.specs.Snoop.{is_moved_in}
use Rattle.fip_snoop.specs.Maps.{number_from, is_between, bindings_of}
use Rattle.fip_snoop.specs.declared.bindings.Binding.{Binding}
use Rattle.fip_snoop.proofs.BindingLemmas.{moved_is, between_as, then_is, else_is}
use Rattle.fip_snoop.proofs.bindings.Bindings.is_elsewhere.Goals as goal

pub returns-then-has_between : goal.returns-then-has_between
returns-then-has_between c =
    let port = c.value-own.result in
    let enode = c.args.enode.now in
    let kept = bindings_of c.self.inside.by_enode in
    then_is c.has_between.result (list_any (is_between (number_from enode 0) (number_from enode port)) kept) (list_any (is_between (number_from enode (port + 1)) (number_from enode (2 ^ 16))) kept)
    (is_moved_in c.self.inside.by_mac port enode)
    (c.has_between.ensures ∙ between_as kept _ _ _ _ c.number_from-first.ensures.value c.number_from-before.ensures.value)
    c.if-has_between.true
    (moved_is c.self.inside.by_mac kept c.self.invariant enode port c.number_from-first.ensures.mac (omega (arith, c.value-own.ensures.range)))
    ∙ ap (λ (l : List Binding). is_moved_in l port enode) c.self.view_is
    ∙ ap (λ (n : ℕ). is_moved_in c.args.self.now n enode) c.value-own.ensures.value

pub returns-else-has_between : goal.returns-else-has_between
returns-else-has_between c =
    let port = c.value-own.result in
    let enode = c.args.enode.now in
    let kept = bindings_of c.self.inside.by_enode in
    else_is c.has_between.result (list_any (is_between (number_from enode 0) (number_from enode port)) kept) (list_any (is_between (number_from enode (port + 1)) (number_from enode (2 ^ 16))) kept)
    (is_moved_in c.self.inside.by_mac port enode) c.has_between-else-has_between.result
    (c.has_between.ensures ∙ between_as kept _ _ _ _ c.number_from-first.ensures.value c.number_from-before.ensures.value)
    c.if-has_between.false
    (c.has_between-else-has_between.ensures ∙ between_as kept _ _ _ _ c.number_from-behind.ensures.value c.number_from-last.ensures.value)
    (moved_is c.self.inside.by_mac kept c.self.invariant enode port c.number_from-first.ensures.mac (omega (arith, c.value-own.ensures.range)))
    ∙ ap (λ (l : List Binding). is_moved_in l port enode) c.self.view_is
    ∙ ap (λ (n : ℕ). is_moved_in c.args.self.now n enode) c.value-own.ensures.value
