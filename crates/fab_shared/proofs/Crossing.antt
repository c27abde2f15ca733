-- A fabric under the lock may go to another thread, and threads may share it.
use base.Fml.{Lft}
use denote.RattleType.{RattleType}
use denote.Ref.{ShrRef}
use denote.Hole.{as_row}
use denote.Struct.Field.{row_field}
use denote.Struct.Tuple.{type_at, TupleAt}
use denote.Param.Send.{IsSend, IsSync, shr_send, sendable}
use denote.Param.SendFields.{declared_send, declared_sync, as_row_send}
use mir.Syntax.{Sym, Lifetime}
use Rattle.std.proofs.Common.{[], ◌∷◌}
use Rattle.std.specs.contracts.alloc.Global as Global
use Rattle.fab_base.specs.contracts.values.Caught as Caught
use Rattle.fab_base.proofs.values.Caught.TheSendSync as caught
use Rattle.fab_base.specs.contracts.values.PortNo as PortNo
use Rattle.fab_base.proofs.values.PortNo.TheSendSync as port
use Rattle.std.proofs.Crossing.{crosses, send}
use Rattle.std.proofs.MapsCrossing as maps
use Rattle.fab_base.proofs.lists.OwnedList.TheSendSync as list
use Rattle.fab_base.specs.contracts.lists.OwnedList as List_of
use Rattle.fab_base.proofs.values.Moment.TheSendSync as moment
use Rattle.fab_config.proofs.Config.TheSendSync as config
use Rattle.zone_rules.specs.contracts.zones.Zones as Zones
use Rattle.fab_roster.proofs.roster.Roster.TheSendSync as roster
use Rattle.fab_policy.specs.contracts.event.Event as Event
use Rattle.fab_policy.proofs.event.Event.TheSendSync as event
use Rattle.fab_sending.specs.contracts.message.Out as Out
use Rattle.fab_sending.proofs.message.Out.TheSendSync as out
use Rattle.forward_core.specs.contracts.fabric.Fabric as Fabric
use Rattle.fab_turn.proofs.board.Pass.TheSendSync as pass
use Rattle.fab_turn.proofs.board.TurnLock.TheSendSync as lock
use Rattle.fab_turn.specs.contracts.board.Pass as Pass
use Rattle.fab_shared.specs.contracts.locked.LockedFabric as Locked
use Rattle.fab_shared.specs.contracts.locked.LockedFabricChronicle.TheImpl as chronicle
use Rattle.fab_shared.specs.contracts.shared.SharedFabric as Shared
use Rattle.fab_turn.specs.contracts.board.TurnLock as Lock

zones_send : IsSend Zones.the_row
zones_send = search (crosses, maps.crosses, list.the_send, sendable) depth 40 fits 4000

events_send : IsSend (List_of.the_row Event.the_row)
events_send = list.the_send Event.the_row event.the_send

outs_send : IsSend (List_of.the_row Out.the_row)
outs_send = list.the_send Out.the_row out.the_send

fabric_send : IsSend Fabric.the_row
fabric_send = search (crosses, zones_send, events_send, outs_send, config.the_send, roster.the_send, moment.the_send, sendable) depth 40 fits 4000

pub locked_send : IsSend Locked.the_row
locked_send = search (fabric_send, sendable) depth 24

pub pass_send : IsSend (Pass.the_row Locked.the_row Event.the_row)
pass_send = pass.the_send Locked.the_row Event.the_row locked_send

lock_sync : IsSync (Lock.the_row Locked.the_row Event.the_row chronicle.ghosts)
lock_sync = lock.the_sync Locked.the_row Event.the_row chronicle.ghosts locked_send

pub shared_sync : IsSync Shared.the_row
shared_sync = declared_sync Shared.the_type (lock_sync, tt)

taken : (R : RattleType) → IsSend R → IsSend (as_row (row_field R))
taken R s = as_row_send (row_field R) s

-- what a thread takes with it that submits a frame: the handles, the allocator, the fabric, its pass and port, and the frame
pub taken_along : (R : RattleType) → IsSync R → (closure : Sym) (a b d : Lifetime) (α β δ : Lft)
    → IsSend (TupleAt closure (ShrRef a α R ∷ Global.the_row ∷ ShrRef b β Shared.the_row ∷ Pass.the_row Locked.the_row Event.the_row ∷ PortNo.the_row ∷ ShrRef d δ Caught.the_row ∷ []))
taken_along R sync closure a b d α β δ =
    declared_send (type_at closure (ShrRef a α R ∷ Global.the_row ∷ ShrRef b β Shared.the_row ∷ Pass.the_row Locked.the_row Event.the_row ∷ PortNo.the_row ∷ ShrRef d δ Caught.the_row ∷ [])) (
      taken (ShrRef a α R) (shr_send a α R sync),
      (taken Global.the_row send, (taken (ShrRef b β Shared.the_row) (shr_send b β Shared.the_row shared_sync), (taken (Pass.the_row Locked.the_row Event.the_row) pass_send, (taken PortNo.the_row port.the_send, (taken (ShrRef d δ Caught.the_row) (shr_send d δ Caught.the_row caught.the_sync), tt))))),
    )
