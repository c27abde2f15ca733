use Rattle.std.proofs.Common.{length, ◌≡◌, ◌∙◌, Some, sym, ap}
use Rattle.fab_base.specs.Desk.{place_of}
use Rattle.fab_base.proofs.MemLemmas.{stays_trans, counted_later}
use Rattle.tool_process.proofs.EdgeLemmas.{untold_opens_in, untold_reads, untold_read_rose, untold_refused}
use Rattle.tool_process.proofs.edge.FileDepotDepot.open_in.Goals as goal

pub returns-in-Some : goal.returns-in-Some
returns-in-Some g c =
    let e = c.in-Some.ensures in
    record { opens = untold_opens_in c.args.name.now c.unwrap-place.result c.args.self.now.desk c.try_open.new.self.desk (sym c.place.ensures.found ∙ c.unwrap-place.ensures) e.stays c.in-Some.slot (length c.args.self.now.files.items) e.fresh.0 e.fresh.1 e.slots e.counts; file = e.file; err = tt; mix = e.mix }

pub returns-in-None : goal.returns-in-None
returns-in-None g c =
    let e = c.in-None.ensures in
    let at : place_of c.args.self.now.desk c.args.name.now ≡ Some c.unwrap-place.result = sym c.place.ensures.found ∙ c.unwrap-place.ensures in
    let stays = stays_trans c.unwrap-place.result c.args.self.now.desk c.try_open.new.self.desk c.read_failed.new.self e.stays c.read_failed.ensures.stays in
    record {
      opens = record {
        reads = untold_reads c.args.name.now c.unwrap-place.result c.args.self.now.desk c.read_failed.new.self at stays (ap (λ v. v.items) c.read_failed.ensures.writes ∙ e.counts.writes);
        fresh = tt;
        opened = tt;
        left = λ told. tt;
        cause = untold_read_rose c.args.name.now c.unwrap-place.result c.args.self.now.desk c.read_failed.new.self at stays (counted_later c.unwrap-place.result _ _ _ e.counts.reads c.read_failed.ensures.counted);
        others = tt;
        refused = untold_refused c.args.name.now c.unwrap-place.result c.args.self.now.desk c.read_failed.new.self at stays (ap (λ v. v.items) c.read_failed.ensures.slots ∙ e.none.slots);
        counts = tt;
      };
      file = tt;
      err = record { slots = ap (λ v. v.items) c.read_failed.ensures.slots ∙ e.none.slots; files = e.none.files };
      mix = e.mix;
    }
