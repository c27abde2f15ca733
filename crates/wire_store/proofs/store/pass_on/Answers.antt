use Rattle.std.proofs.Common.{◌≡◌, Some, inr, refl, sym, subst, length, arith}
use Rattle.std.specs.Prelude.{slice_get}
use Rattle.std.proofs.lemmas.Option.{slice_get_read}
use Rattle.wire_store.specs.declared.store.Outlet.{Outlet}
use Rattle.wire_store.specs.Store.{Takes}
use Rattle.wire_store.proofs.store.pass_on.Goals as goal

pub returns-then-index-ports : goal.returns-then-index-ports
returns-then-index-ports g c =
    let o = c.index-outs-index.result in
    let acts = g.P.Ports.acts in
    let at : slice_get c.args.outs.now c.outlet_of-index.result ≡ Some o = slice_get_read c.args.outs.now (length c.args.outs.now) c.outlet_of-index.result o refl (omega arith) c.index-outs-index.is in
    let takes : Takes c.outlet_of-index.result o c.take.new.self c.args.piece.now (acts c.args.devices.now) (acts c.take.new.devices) =
    subst (λ (x : Outlet). Takes c.outlet_of-index.result x c.take.new.self c.args.piece.now (acts c.args.devices.now) (acts c.take.new.devices)) (sym c.index-outs-index.is) c.take.ensures in
    inr (c.outlet_of-index.result, o, c.take.new.self, at, refl, c.outlet_of-index.ensures o at, takes)
