use Rattle.std.proofs.Common.{◌≡◌, ◌<◌, ◌==◌, false, length, List, IsTrue, sym, subst}
use Rattle.std.specs.List.{list_any}
use Rattle.fab_policy.specs.Free.{Request, is_free}
use Rattle.fab_policy.specs.State.{LivePort}
use Rattle.fab_roster.specs.Changes.{Grants}
use Rattle.fab_roster.specs.Roll.{addresses_of}
use Rattle.forward_core.specs.Carrying.{left_to}
use Rattle.forward_core.proofs.GrantedLemmas.{again, ended_addresses, ends_differ, ends_live, granted, remain, still_free}
use Rattle.forward_core.proofs.carrying.grant.Goals as goal

pub end_all-requires-clause-live : goal.end_all-requires-clause-live
end_all-requires-clause-live c = ends_live c.args.request.now (addresses_of c.args.ended.now) c.args.roster.now c.requires.sound (ended_addresses c.args.request.now c.args.roster.now.tables c.args.ended.now c.requires.ended)

pub end_all-requires-clause-differ : goal.end_all-requires-clause-differ
end_all-requires-clause-differ c = ends_differ c.args.request.now (addresses_of c.args.ended.now) c.args.roster.now c.requires.sound (ended_addresses c.args.request.now c.args.roster.now.tables c.args.ended.now c.requires.ended)

pub grant-requires-clause-free : goal.grant-requires-clause-free
grant-requires-clause-free c =
    subst (λ (q : Request). IsTrue (is_free c.end_all.new.self.tables (again q) c.args.address)) (sym c.request.view_is)
    (still_free c.args.request.now (addresses_of c.args.ended.now) c.args.roster.now c.end_all.new.self c.requires.sound (ended_addresses c.args.request.now c.args.roster.now.tables c.args.ended.now c.requires.ended) c.end_all.ensures.change c.args.address c.requires.free)

pub grant-requires-clause-name : goal.grant-requires-clause-name
grant-requires-clause-name c =
    subst (λ (l : List LivePort). list_any (λ q. q.name == c.request.inside.name) l ≡ false)
    (sym (remain c.args.request.now (addresses_of c.args.ended.now) c.args.roster.now c.end_all.new.self c.requires.sound (ended_addresses c.args.request.now c.args.roster.now.tables c.args.ended.now c.requires.ended) c.end_all.ensures.change c.end_all.ensures.sound))
    (subst (λ (r : Request). list_any (λ q. q.name == r.name) (left_to c.args.request.now c.args.roster.now.tables) ≡ false) (sym c.request.view_is) c.requires.name)

pub grant-requires-clause-room : goal.grant-requires-clause-room
grant-requires-clause-room c =
    subst (λ n. length c.end_all.new.self.tables.ports < n) (sym c.end_all.ensures.change.bounds.limit)
    (subst (λ (l : List LivePort). length l < c.args.roster.now.limit)
    (sym (remain c.args.request.now (addresses_of c.args.ended.now) c.args.roster.now c.end_all.new.self c.requires.sound (ended_addresses c.args.request.now c.args.roster.now.tables c.args.ended.now c.requires.ended) c.end_all.ensures.change c.end_all.ensures.sound)) c.requires.room)

pub returns : goal.returns
returns c =
    granted c.args.request.now (addresses_of c.args.ended.now) c.args.roster.now c.end_all.new.self c.grant.new.self c.requires.sound (ended_addresses c.args.request.now c.args.roster.now.tables c.args.ended.now c.requires.ended) c.end_all.ensures.change c.args.address c.args.node
    (subst (λ (q : Request). Grants c.args.address (record { name = q.name; node = c.args.node; enode = q.enode }) c.end_all.new.self c.grant.new.self) c.request.view_is c.grant.ensures.change)
    c.tables_change.ensures.grant c.grant.ensures.sound c.requires.free c.args.arrived.now c.requires.asks
