use Rattle.std.proofs.Common.{Ok, Err, sym, subst}
use Rattle.fab_replay.specs.AllOutputs.{FinishesEach}
use Rattle.fab_replay.specs.Owed.{ReadsOut}
use Rattle.fab_replay.proofs.OwedLemmas.{out_told, out_unread}
use Rattle.fab_replay.proofs.ResultLemmas.{err_is}
use Rattle.fab_replay.proofs.owed.Owed.read_out.Goals as goal

pub returns-in_err-first : goal.returns-in_err-first
returns-in_err-first g c =
    let seen = g.D.Depot.seen in
    let outs = c.args.outs.now in
    let a = seen c.args.depot.now in
    let b = seen c.read_on.new.depot in
    let d = seen c.finish_each.new.depot in
    let f = subst (λ l. FinishesEach outs b d l (Err c.in_err-first.field-0.0)) c.deref.ensures.value c.in_err-first.ensures.finishes in
    record {
      reads = subst (ReadsOut outs a d c.args.self.now) (err_is c.from_residual-in_err-first.result _ c.from_residual-in_err-first.ensures.1)
          (out_unread outs a b c.args.self.now c.read_on.new.self c.requires.inputs d c.in_ok-read_on.ensures.reads c.in_err-first.field-0.0 f);
    }

pub returns : goal.returns
returns g c =
    let seen = g.D.Depot.seen in
    let outs = c.args.outs.now in
    let a = seen c.args.depot.now in
    let b = seen c.read_on.new.depot in
    let d = seen c.finish_each.new.depot in
    let f = subst (λ l. FinishesEach outs b d l (Ok c.in_ok-first.first)) c.deref.ensures.value c.in_ok-first.ensures.finishes in
    record { reads = subst (ReadsOut outs a d c.args.self.now) (sym c.answer_by.ensures) (out_told outs a b c.args.self.now c.read_on.new.self c.requires.inputs d c.in_ok-read_on.ensures.reads c.in_ok-first.first f) }
