-- Workers may go to other threads, and what they share may be shared.
use base.Fml.{Lft}
use denote.Hole.{as_row}
use denote.RattleType.{RattleType}
use denote.Ref.{ShrRef}
use denote.Slice.{ShrSlice}
use denote.Struct.Field.{row_field}
use denote.Struct.Tuple.{type_at, TupleAt}
use denote.Param.Send.{IsSend, IsSync, shr_sync, shr_slice_sync, sendable}
use denote.Param.SendFields.{declared_send, declared_sync, as_row_sync}
use mir.Syntax.{Sym, Lifetime}
use Rattle.std.proofs.Common.{[], ◌∷◌}
use Rattle.std.proofs.Crossing.{sync}
use Rattle.std.specs.contracts.alloc.Global as Global
use Rattle.fab_base.proofs.values.PortNo.TheSendSync as port
use Rattle.window_records.specs.contracts.shelf.Shelf as Shelf
use Rattle.window_records.proofs.shelf.Shelf.TheSendSync as shelf
use Rattle.fab_shared.specs.contracts.shared.SharedFabric as Shared
use Rattle.fab_shared.proofs.Crossing.{pass_send, shared_sync}
use Rattle.fab_shared.specs.contracts.worker.Worker as Worker

pub worker_send : IsSend Worker.the_row
worker_send = declared_send Worker.the_type (pass_send, (port.the_send, (search sendable, tt)))

lent : (R : RattleType) → IsSync R → IsSync (as_row (row_field R))
lent R s = as_row_sync (row_field R) s

-- what the workers share: the handles, the allocator, the fabric, the shelves and the gate
pub shared_along : (R G : RattleType) → IsSync R → IsSync G → (closure : Sym) (a b d e f : Lifetime) (α β δ ε φ : Lft)
    → IsSync (TupleAt closure (ShrRef a α R ∷ ShrRef b β Global.the_row ∷ ShrRef d δ Shared.the_row ∷ ShrSlice e ε Shelf.the_row ∷ ShrRef f φ G ∷ []))
shared_along R G rt gate closure a b d e f α β δ ε φ =
    declared_sync (type_at closure (ShrRef a α R ∷ ShrRef b β Global.the_row ∷ ShrRef d δ Shared.the_row ∷ ShrSlice e ε Shelf.the_row ∷ ShrRef f φ G ∷ [])) (
      lent (ShrRef a α R) (shr_sync a α R rt),
      (
        lent (ShrRef b β Global.the_row) (shr_sync b β Global.the_row sync),
        (
          lent (ShrRef d δ Shared.the_row) (shr_sync d δ Shared.the_row shared_sync),
          (lent (ShrSlice e ε Shelf.the_row) (shr_slice_sync e ε Shelf.the_row shelf.the_sync), (lent (ShrRef f φ G) (shr_sync f φ G gate), tt)),
        ),
      ),
    )
