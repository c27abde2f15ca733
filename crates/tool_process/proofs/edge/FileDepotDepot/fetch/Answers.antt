use Rattle.std.proofs.Common.{◌≡◌, ◌∙◌, Some, sym, ap}
use Rattle.fab_base.specs.Desk.{place_of, name}
use Rattle.fab_base.proofs.MemLemmas.{input_within}
use Rattle.tool_process.proofs.EdgeLemmas.{untold_reads, untold_read_rose, untold_refused, no_telling}
use Rattle.tool_process.proofs.edge.FileDepotDepot.fetch.Goals as goal

pub returns-in-Err-clause-fetches : goal.returns-in-Err-clause-fetches
returns-in-Err-clause-fetches g c =
    let lt = input_within c.args.self.now.desk.slots.items c.args.slot c.requires.input in
    let n = name c.args.self.now.desk c.args.slot in
    let at : place_of c.args.self.now.desk n ≡ Some c.file-source.result = c.args.self.now.desk.placed c.args.slot lt ∙ ap Some (sym c.file-source.ensures.value) in
    record {
      reads = untold_reads n c.file-source.result c.args.self.now.desk c.read_failed.new.self at c.read_failed.ensures.stays (ap (λ v. v.items) c.read_failed.ensures.writes);
      bound = tt;
      taken = λ told. tt;
      ended = λ told. tt;
      nothing = λ told. absurd (no_telling told);
      cause = untold_read_rose n c.file-source.result c.args.self.now.desk c.read_failed.new.self at c.read_failed.ensures.stays c.read_failed.ensures.counted;
      others = tt;
      refused = untold_refused n c.file-source.result c.args.self.now.desk c.read_failed.new.self at c.read_failed.ensures.stays (ap (λ v. v.items) c.read_failed.ensures.slots);
      counts = tt;
    }
