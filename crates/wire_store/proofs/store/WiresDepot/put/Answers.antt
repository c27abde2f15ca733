use Rattle.std.proofs.Common.{◌≡◌, ◌∙◌, List, take, drop, length, sym, subst}
use Rattle.std.proofs.lemmas.List.{take_at}
use Rattle.wire_store.specs.declared.store.Outlet.{Outlet}
use Rattle.wire_store.specs.Store.{Passes}
use Rattle.wire_store.proofs.store.WiresDepot.put.Goals as goal

pub returns-clause-sends : goal.returns-clause-sends
returns-clause-sends g c =
    let old = c.args.self.now.outs in
    let new = c.pass_on.new.outs in
    let Sent : List Outlet → List Outlet → Type 0 = λ y z. Passes c.args.slot y z (take c.in_ok-count.count c.args.from.now) (g.P.Ports.acts c.args.self.now.devices) (g.P.Ports.acts c.pass_on.new.devices) in
    let same : c.deref_mut.result.now ≡ old.items = c.deref_mut.ensures.value in
    let here : Sent old.items new = subst (λ (y : List Outlet). Sent y new) same c.pass_on.ensures in
    subst (λ (z : List Outlet). Sent old.items z) (sym (take_at new (drop (length new) old.items) old.len (c.pass_on.auto.outs ∙ c.deref_mut.ensures.len))) here
