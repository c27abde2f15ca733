use Rattle.std.proofs.Common.{Ok, Err, sym, subst}
use Rattle.pcap_file.specs.Reading.{NextReads, reader_stand}
use Rattle.pcap_file.specs.Captures.{SoFar, ReadsRecords}
use Rattle.pcap_file.proofs.CaptureLemmas.{so_far_none, so_far_more, so_far_ended, so_far_failed}
use Rattle.pcap_file.proofs.captures.records_of.Goals as goal

pub loop-record-init : goal.loop-record-init
loop-record-init g c =
    let a = g.D.Depot.seen c.args.depot.now in
    let begin = reader_stand a c.args.reader.now c.args.budget.now in
    subst (SoFar c.args.port c.args.slot begin begin) (sym c.empty-records.ensures)
    (so_far_none c.args.port c.args.slot a c.args.reader.now c.args.budget.now c.requires.input c.requires.fresh c.requires.place)

pub loop-record-preserved : goal.loop-record-preserved
loop-record-preserved g c =
    let a = g.D.Depot.seen c.args.depot.now in
    let l = c.loop-record in
    subst (SoFar c.args.port c.args.slot (reader_stand a c.args.reader.now c.args.budget.now) (reader_stand (g.D.Depot.seen c.next.new.depot) c.next.new.self c.next.new.budget)) (sym c.in-Ok.ensures.ok)
    (so_far_more c.args.port c.args.slot a c.args.reader.now c.args.budget.now (g.D.Depot.seen l.depot) (g.D.Depot.seen c.next.new.depot) l.reader c.next.new.self l.budget c.next.new.budget l.records l.invariant c.in-Ok-Some.record
    (subst (λ o. NextReads c.args.slot (reader_stand (g.D.Depot.seen l.depot) l.reader l.budget) (reader_stand (g.D.Depot.seen c.next.new.depot) c.next.new.self c.next.new.budget) (Ok o)) c.in-Ok-Some.field-0-is c.in-Ok-Some.ensures.next))

pub returns-in-Ok-None : goal.returns-in-Ok-None
returns-in-Ok-None g c =
    let l = c.loop-record in
    record {
      reads = so_far_ended c.args.port c.args.slot (g.D.Depot.seen c.args.depot.now) c.args.reader.now c.args.budget.now (g.D.Depot.seen l.depot) (g.D.Depot.seen c.next.new.depot) l.reader c.next.new.self l.budget c.next.new.budget l.records l.invariant
          (subst (λ o. NextReads c.args.slot (reader_stand (g.D.Depot.seen l.depot) l.reader l.budget) (reader_stand (g.D.Depot.seen c.next.new.depot) c.next.new.self c.next.new.budget) (Ok o)) c.in-Ok-None.field-0-is c.in-Ok-None.ensures.next);
    }

pub returns-in-Err : goal.returns-in-Err
returns-in-Err g c =
    let l = c.loop-record in
    let a = g.D.Depot.seen c.args.depot.now in
    let b = g.D.Depot.seen c.next.new.depot in
    record {
      reads = subst (λ e. ReadsRecords c.args.port c.args.slot (reader_stand a c.args.reader.now c.args.budget.now) (reader_stand b c.next.new.self c.next.new.budget) (Err e)) (sym c.fault_of.ensures)
          (so_far_failed c.args.port c.args.slot a c.args.reader.now c.args.budget.now (g.D.Depot.seen l.depot) b l.reader c.next.new.self l.budget c.next.new.budget l.records l.invariant c.in-Err.error c.in-Err.ensures.next);
    }
