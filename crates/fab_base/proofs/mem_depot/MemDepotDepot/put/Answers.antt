use Rattle.std.proofs.Common.{◌≡◌, ◌<◌, ◌∙◌, Some, Ok, sym, ap, subst, refl, length}
use Rattle.fab_base.specs.Seen.{Puts}
use Rattle.fab_base.specs.Desk.{place_of, name}
use Rattle.fab_base.specs.MemDepot.{mem_seen, MayFail, spare_at}
use Rattle.fab_base.proofs.SlotLemmas.{same_slots, keeps_slots, same_contents, same_reads}
use Rattle.fab_base.proofs.MemLemmas.{mem_puts, mem_keeps, same_file, write_rose, stays_trans, stays_same, keeps_same, output_within, counts_write, counted_later, same_counts}
use Rattle.fab_base.proofs.mem_depot.MemDepotDepot.put.Goals as goal

pub returns-in-Some-clause-puts : goal.returns-in-Some-clause-puts
returns-in-Some-clause-puts c =
    let e = c.in-Some.ensures in
    let d = c.args.self.now.desk in
    let lt = output_within d.slots.items c.args.slot c.requires.output in
    let at : place_of d (name d c.args.slot) ≡ Some c.file-file.result = d.placed c.args.slot lt ∙ ap Some (sym c.file-file.ensures.value) in
    subst (λ n. Puts {E = _} c.args.slot c.args.from.now (mem_seen c.args.self.now) (mem_seen c.try_put.new.self) (Ok n)) (sym e.all)
    (mem_puts (name d c.args.slot) c.file-file.result _ _ _ _ at (stays_same c.file-file.result _ _ e.desk) c.args.slot c.args.from.now refl e.others e.grown c.requires.some (keeps_same _ _ e.desk))

pub returns-in-None-clause-puts : goal.returns-in-None-clause-puts
returns-in-None-clause-puts c =
    let e = c.in-None.ensures in
    let d = c.args.self.now.desk in
    let f = c.file-file.result in
    let lt = output_within d.slots.items c.args.slot c.requires.output in
    let n = name d c.args.slot in
    let at : place_of d n ≡ Some f = d.placed c.args.slot lt ∙ ap Some (sym c.file-file.ensures.value) in
    let stays = stays_trans f _ _ _ (stays_same f _ _ e.desk) c.write_failed.ensures.stays in
    let same_desk = keeps_same _ _ e.desk in
    let slots = ap (λ v. v.items) c.write_failed.ensures.slots ∙ same_desk.slots in
    record {
      keeps = mem_keeps n f _ _ _ _ at stays e.others;
      some = tt;
      grown = λ told. tt;
      same = same_file n f _ _ _ _ at stays e.none;
      cause = write_rose n f _ _ c.args.self.now.contents.items c.try_put.new.self.contents.items at stays (counted_later f _ _ _ same_desk.writes c.write_failed.ensures.counted);
      slots = same_slots d c.write_failed.new.self c.args.self.now.contents.items c.try_put.new.self.contents.items stays.names slots;
      refused = keeps_slots d c.write_failed.new.self c.args.self.now.contents.items c.try_put.new.self.contents.items stays.names (same_contents f _ _ e.others e.none) slots;
      counts = tt;
      reads = same_reads d c.write_failed.new.self c.args.self.now.contents.items c.try_put.new.self.contents.items stays.names (ap (λ v. v.items) c.write_failed.ensures.reads ∙ same_desk.reads);
    }

pub returns-in-None-clause-counts : goal.returns-in-None-clause-counts
returns-in-None-clause-counts c =
    let e = c.in-None.ensures in
    let d = c.args.self.now.desk in
    let f = c.file-file.result in
    let lt = output_within d.slots.items c.args.slot c.requires.output in
    let same = same_counts _ _ e.desk in
    counts_write (name d c.args.slot) f _ _ c.args.self.now.contents.items c.try_put.new.self.contents.items (d.placed c.args.slot lt ∙ ap Some (sym c.file-file.ensures.value)) (stays_trans f _ _ _ (stays_same f _ _ e.desk) c.write_failed.ensures.stays)
    (counted_later f _ _ _ same.writes c.write_failed.ensures.counted) (ap (λ v. v.items) c.write_failed.ensures.reads ∙ same.reads)

pub returns-in-None-clause-cause : goal.returns-in-None-clause-cause
returns-in-None-clause-cause c = subst (λ f. MayFail c.args.self.now (spare_at c.args.self.now.contents.items f < length c.args.from.now)) c.file-file.ensures.value c.in-None.ensures.cause
