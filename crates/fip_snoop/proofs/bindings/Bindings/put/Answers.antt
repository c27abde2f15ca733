use Rattle.std.proofs.Common.{◌≡◌, ◌≢◌, ◌∙◌, ℕ, List, None, IfSome, filter, sym, ap, subst}
use Rattle.fab_base.specs.Keyed.{item_at, added}
use Rattle.fip_snoop.specs.Snoop.{is_binding_of, with_one}
use Rattle.fip_snoop.specs.Maps.{mac_number, enode_number, bindings_of, restored, forgotten, AreKept}
use Rattle.fip_snoop.specs.declared.bindings.Binding.{Binding}
use Rattle.fip_snoop.proofs.EnodeLemmas.{put_of}
use Rattle.fip_snoop.proofs.BindingLemmas.{AreKept-replaced, same_put, restored_is, old_there}
use Rattle.fip_snoop.proofs.GrantLemmas.{bound_stays}
use Rattle.fip_snoop.proofs.bindings.Bindings.put.Goals as goal

pub invariant_of-self-in-Ok : goal.invariant_of-self-in-Ok
invariant_of-self-in-Ok c =
    let macs = c.self.inside.by_mac in
    let enodes = bindings_of c.self.inside.by_enode in
    let old = c.in_ok-old.old in
    subst (λ (l : List Binding). AreKept c.put.new.self l)
    (sym (c.forget.ensures ∙ ap (λ (l : List Binding). forgotten c.args.binding old l) (put_of c.args.binding c.self.inside.by_enode c.put-2.new.self c.in-Ok.ensures.ok)))
    (subst (λ (l : List Binding). AreKept l (forgotten c.args.binding old (added enode_number c.args.binding enodes))) (sym c.in_ok-old.ensures.ok)
    (AreKept-replaced macs enodes c.self.invariant c.args.binding c.enode_rank.ensures.whole old c.in_ok-old.ensures.old))

pub restore-requires : goal.restore-requires
restore-requires c =
    subst (λ (l : List Binding). IfSome c.in_ok-old.old (λ x. item_at mac_number (mac_number x) l ≢ None)) (sym c.in_ok-old.ensures.ok)
    (old_there c.self.inside.by_mac (bindings_of c.self.inside.by_enode) c.self.invariant c.args.binding c.enode_rank.ensures.whole c.in_ok-old.old c.in_ok-old.ensures.old)

back : (c : goal.After-restore) → c.restore.new.by_mac ≡ c.self.inside.by_mac
back c =
    c.restore.ensures ∙ ap (λ (l : List Binding). restored c.mac_rank.result c.in_ok-old.old l) c.in_ok-old.ensures.ok
    ∙ ap (λ (n : ℕ). restored n c.in_ok-old.old (added mac_number c.args.binding c.self.inside.by_mac)) c.mac_rank.ensures.value
    ∙ restored_is c.self.inside.by_mac (bindings_of c.self.inside.by_enode) c.self.invariant c.args.binding c.enode_rank.ensures.whole c.in_ok-old.old c.in_ok-old.ensures.old

pub invariant_of-self-in-Err : goal.invariant_of-self-in-Err
invariant_of-self-in-Err c =
    subst (λ (l : List Binding). AreKept l (bindings_of c.put-2.new.self)) (sym (back c))
    (subst (λ l. AreKept c.self.inside.by_mac (bindings_of l)) (sym c.in-Err.ensures.err) c.self.invariant)

pub returns-in-Ok-clause-ok : goal.returns-in-Ok-clause-ok
returns-in-Ok-clause-ok c mac =
    ap (filter (is_binding_of mac)) c.in_ok-old.ensures.ok
    ∙ same_put c.self.inside.by_mac (bindings_of c.self.inside.by_enode) c.self.invariant c.args.binding c.enode_rank.ensures.whole mac
    ∙ ap (λ (l : List Binding). filter (is_binding_of mac) (with_one c.args.binding l)) c.self.view_is

pub returns-in-Err-clause-err : goal.returns-in-Err-clause-err
returns-in-Err-clause-err c = back c ∙ c.self.view_is

pub returns-then-is_bound-clause-ok : goal.returns-then-is_bound-clause-ok
returns-then-is_bound-clause-ok c = bound_stays c.args.binding c.args.self.now (c.is_bound.ensures.bound c.if-is_bound.true)
