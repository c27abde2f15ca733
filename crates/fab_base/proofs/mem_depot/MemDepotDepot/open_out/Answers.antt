use Rattle.std.proofs.Common.{◌≡◌, ◌∙◌, Some, sym, ap}
use Rattle.fab_base.specs.Desk.{place_of}
use Rattle.fab_base.proofs.SlotLemmas.{keeps_slots, same_contents, same_reads}
use Rattle.fab_base.proofs.MemLemmas.{mem_opens_out, mem_keeps, same_file, write_rose, stays_trans, counts_write, counted_later}
use Rattle.fab_base.proofs.mem_depot.MemDepotDepot.open_out.Goals as goal

pub returns-in-Some-clause-opens : goal.returns-in-Some-clause-opens
returns-in-Some-clause-opens c =
    let e = c.in-Some.ensures in
    mem_opens_out c.args.name.now c.unwrap-file.result _ _ _ _ (sym c.place.ensures.found ∙ c.unwrap-file.ensures) e.stays c.in-Some.slot e.others e.fresh.0 e.fresh.1 e.emptied e.slots e.counts

pub returns-in-None-clause-opens : goal.returns-in-None-clause-opens
returns-in-None-clause-opens c =
    let e = c.in-None.ensures in
    let f = c.unwrap-file.result in
    let at : place_of c.args.self.now.desk c.args.name.now ≡ Some f = sym c.place.ensures.found ∙ c.unwrap-file.ensures in
    let stays = stays_trans f _ _ _ e.stays c.write_failed.ensures.stays in
    record {
      keeps = mem_keeps c.args.name.now f _ _ _ _ at stays e.others;
      fresh = tt;
      opened = tt;
      emptied = λ told. tt;
      same = same_file c.args.name.now f _ _ _ _ at stays e.none;
      cause = write_rose c.args.name.now f _ _ c.args.self.now.contents.items c.try_open_out.new.self.contents.items at stays (counted_later f _ _ _ e.counts.writes c.write_failed.ensures.counted);
      others = tt;
      refused = keeps_slots c.args.self.now.desk c.write_failed.new.self c.args.self.now.contents.items c.try_open_out.new.self.contents.items stays.names (same_contents f _ _ e.others e.none) (ap (λ v. v.items) c.write_failed.ensures.slots ∙ e.kept);
      counts = tt;
      reads = same_reads c.args.self.now.desk c.write_failed.new.self c.args.self.now.contents.items c.try_open_out.new.self.contents.items stays.names (ap (λ v. v.items) c.write_failed.ensures.reads ∙ e.counts.reads);
    }

pub returns-in-None-clause-counts : goal.returns-in-None-clause-counts
returns-in-None-clause-counts c =
    let e = c.in-None.ensures in
    let f = c.unwrap-file.result in
    counts_write c.args.name.now f _ _ c.args.self.now.contents.items c.try_open_out.new.self.contents.items (sym c.place.ensures.found ∙ c.unwrap-file.ensures) (stays_trans f _ _ _ e.stays c.write_failed.ensures.stays)
    (counted_later f _ _ _ e.counts.writes c.write_failed.ensures.counted) (ap (λ v. v.items) c.write_failed.ensures.reads ∙ e.counts.reads)
