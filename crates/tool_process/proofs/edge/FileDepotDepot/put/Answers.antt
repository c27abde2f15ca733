use Rattle.std.proofs.Common.{◌≡◌, ◌∙◌, Some, sym, ap}
use Rattle.fab_base.specs.Desk.{place_of, name}
use Rattle.fab_base.proofs.MemLemmas.{output_within}
use Rattle.tool_process.proofs.EdgeLemmas.{untold_keeps, untold_files, untold_slots, untold_refused, untold_same_reads, untold_write_rose}
use Rattle.tool_process.proofs.edge.FileDepotDepot.put.Goals as goal

pub returns-in-Err-clause-puts : goal.returns-in-Err-clause-puts
returns-in-Err-clause-puts g c =
    let lt = output_within c.args.self.now.desk.slots.items c.args.slot c.requires.output in
    let n = name c.args.self.now.desk c.args.slot in
    let at : place_of c.args.self.now.desk n ≡ Some c.file-target.result = c.args.self.now.desk.placed c.args.slot lt ∙ ap Some (sym c.file-target.ensures.value) in
    record {
      keeps = untold_keeps n c.file-target.result c.args.self.now.desk c.write_failed.new.self at c.write_failed.ensures.stays;
      some = tt;
      grown = λ told. tt;
      same = untold_files n c.file-target.result c.args.self.now.desk c.write_failed.new.self at c.write_failed.ensures.stays n;
      cause = untold_write_rose n c.file-target.result c.args.self.now.desk c.write_failed.new.self at c.write_failed.ensures.stays c.write_failed.ensures.counted;
      slots = untold_slots n c.file-target.result c.args.self.now.desk c.write_failed.new.self at c.write_failed.ensures.stays (ap (λ v. v.items) c.write_failed.ensures.slots);
      refused = untold_refused n c.file-target.result c.args.self.now.desk c.write_failed.new.self at c.write_failed.ensures.stays (ap (λ v. v.items) c.write_failed.ensures.slots);
      counts = tt;
      reads = untold_same_reads n c.file-target.result c.args.self.now.desk c.write_failed.new.self at c.write_failed.ensures.stays (ap (λ v. v.items) c.write_failed.ensures.reads);
    }
