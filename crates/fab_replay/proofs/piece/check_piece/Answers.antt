use Rattle.std.proofs.Common.{◌≡◌, ℕ, List, Some, refl, subst}
use Rattle.window_records.specs.declared.shelf.Shelf.{Shelf}
use Rattle.fab_replay.specs.Check.{task_from}
use Rattle.fab_replay.specs.Piece.{ChecksPiece, IsFirstEarly, origin_of}
use Rattle.fab_replay.proofs.PieceLemmas.{begins_early, ends_piece, none_early}
use Rattle.fab_replay.proofs.ResultLemmas.{err_is}
use Rattle.fab_replay.proofs.piece.check_piece.Goals as goal

pub returns-in_err-begun-clause-checks : goal.returns-in_err-begun-clause-checks
returns-in_err-begun-clause-checks g c =
    let seen = g.D.Depot.seen in
    let F = c.args.fabric.now in
    let k = task_from F.settings (origin_of F c.args.written.now.firsts.now) c.args.budget.now c.args.ins.now (seen c.args.depot.now) c.args.written.now.journal.now c.args.written.now.outs.now in
    subst (ChecksPiece k (seen c.look_first.new.depot) F F) (err_is c.from_residual.result c.in_err-begun.field-0.0 c.from_residual.ensures.1)
    (ends_piece (c.in_err-begun.ensures.begins k.from refl c.requires.firsts))

pub returns-in-Some-clause-checks : goal.returns-in-Some-clause-checks
returns-in-Some-clause-checks g c =
    let seen = g.D.Depot.seen in
    let F = c.args.fabric.now in
    let k = task_from F.settings (origin_of F c.args.written.now.firsts.now) c.args.budget.now c.args.ins.now (seen c.args.depot.now) c.args.written.now.journal.now c.args.written.now.outs.now in
    begins_early k (seen c.look_first.new.depot) F c.look_first.new.ins c.in_ok-begun.begun.shelves.items c.in_ok-begun.ensures.touches c.in_ok-begun.ensures.read c.in-Some.place c.at-port.result c.at-port.ensures
    (subst (λ (l : List Shelf). (time : ℕ) × (F.state.tables.clock ≡ Some time) × IsFirstEarly F.settings time l c.in-Some.place) c.deref.ensures.value c.in-Some.ensures.some)

pub check_begun-requires : goal.check_begun-requires
check_begun-requires g c =
    let seen = g.D.Depot.seen in
    let F = c.args.fabric.now in
    let k = task_from F.settings (origin_of F c.args.written.now.firsts.now) c.args.budget.now c.args.ins.now (seen c.args.depot.now) c.args.written.now.journal.now c.args.written.now.outs.now in
    record {
      going = (
        k,
        record { journal = refl; firsts = λ q. refl; outputs = refl },
        c.in_ok-begun.ensures.begins k.from refl c.requires.firsts
            (none_early F.settings F.state.tables.clock c.early_place.result c.deref.result.now c.in_ok-begun.begun.shelves.items c.deref.ensures.value c.in_default.is c.early_place.ensures.none),
      );
    }

pub returns-in_err-entries-clause-checks : goal.returns-in_err-entries-clause-checks
returns-in_err-entries-clause-checks g c =
    let seen = g.D.Depot.seen in
    let F = c.args.fabric.now in
    let k = task_from F.settings (origin_of F c.args.written.now.firsts.now) c.args.budget.now c.args.ins.now (seen c.args.depot.now) c.args.written.now.journal.now c.args.written.now.outs.now in
    let going =
    c.in_ok-begun.ensures.begins k.from refl c.requires.firsts
    (none_early F.settings F.state.tables.clock c.early_place.result c.deref.result.now c.in_ok-begun.begun.shelves.items c.deref.ensures.value c.in_default.is c.early_place.ensures.none) in
    subst (ChecksPiece k (seen c.check_begun.new.depot) F c.check_begun.new.fabric) (err_is c.from_residual-in_err-entries.result c.in_err-entries.field-0.0 c.from_residual-in_err-entries.ensures.1)
    (ends_piece (c.in_err-entries.ensures.ends k (record { journal = refl; firsts = λ q. refl; outputs = refl }) going))

pub returns-clause-checks : goal.returns-clause-checks
returns-clause-checks g c =
    let seen = g.D.Depot.seen in
    let F = c.args.fabric.now in
    let k = task_from F.settings (origin_of F c.args.written.now.firsts.now) c.args.budget.now c.args.ins.now (seen c.args.depot.now) c.args.written.now.journal.now c.args.written.now.outs.now in
    let going =
    c.in_ok-begun.ensures.begins k.from refl c.requires.firsts
    (none_early F.settings F.state.tables.clock c.early_place.result c.deref.result.now c.in_ok-begun.begun.shelves.items c.deref.ensures.value c.in_default.is c.early_place.ensures.none) in
    ends_piece (c.in_ok-entries.ensures.ends k (record { journal = refl; firsts = λ q. refl; outputs = refl }) going)
