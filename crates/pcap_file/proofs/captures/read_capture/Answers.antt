use Rattle.std.proofs.Common.{Err, rules, sym, subst}
use Rattle.pcap_file.specs.Captures.{ReadsCapture}
use Rattle.pcap_file.proofs.CaptureLemmas.{whole_place, whole_read, whole_refused}
use Rattle.pcap_file.proofs.captures.read_capture.Goals as goal

pub records_of-requires-clause-place : goal.records_of-requires-clause-place
records_of-requires-clause-place g c = whole_place c.args.port c.args.slot (g.D.Depot.seen c.args.depot.now) (g.D.Depot.seen c.open.new.depot) c.args.budget.now c.open.new.budget c.requires.input c.in-Ok.reader c.in-Ok.ensures.opens (search rules)

pub returns-in-Ok : goal.returns-in-Ok
returns-in-Ok g c = record {
  reads = whole_read c.args.port c.args.slot (g.D.Depot.seen c.args.depot.now) (g.D.Depot.seen c.open.new.depot) c.args.budget.now c.open.new.budget c.requires.input
      (g.D.Depot.seen c.records_of.new.depot) c.in-Ok.reader c.records_of.new.reader c.records_of.new.budget c.records_of.result c.in-Ok.ensures.opens c.records_of.ensures.reads;
}

pub returns-in-Err : goal.returns-in-Err
returns-in-Err g c =
    let a = g.D.Depot.seen c.args.depot.now in
    let b = g.D.Depot.seen c.open.new.depot in
    record {
      reads = subst (λ e. ReadsCapture c.args.port c.args.slot a b c.args.budget.now c.open.new.budget (Err e)) (sym c.open_fault_of.ensures)
          (whole_refused c.args.port c.args.slot a b c.args.budget.now c.open.new.budget c.requires.input c.in-Err.error c.in-Err.ensures.opens);
    }
