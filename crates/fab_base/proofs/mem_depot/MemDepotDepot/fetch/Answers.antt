use Rattle.std.proofs.Common.{◌≡◌, ◌∙◌, Some, sym, ap, arith}
use Rattle.fab_base.specs.Contents.{content_at}
use Rattle.fab_base.specs.Desk.{place_of, name}
use Rattle.fab_base.proofs.SlotLemmas.{keeps_slots, keeps_others, same_reads}
use Rattle.fab_base.proofs.MemLemmas.{mem_reads, read_rose, stays_trans, input_within, left_slots, none_left, counts_read, counted_later}
use Rattle.fab_base.proofs.mem_depot.MemDepotDepot.fetch.Goals as goal

pub returns-in-Some-clause-fetches : goal.returns-in-Some-clause-fetches
returns-in-Some-clause-fetches c =
    let e = c.in-Some.ensures in
    let d = c.args.self.now.desk in
    let lt = input_within d.slots.items c.args.slot c.requires.input in
    let at : place_of d (name d c.args.slot) ≡ Some c.file-file.result = d.placed c.args.slot lt ∙ ap Some (sym c.file-file.ensures.value) in
    let room = c.requires.room in
    let all = e.all in
    record {
      reads = mem_reads (name d c.args.slot) c.file-file.result _ _ _ _ at e.stays (ap (λ v. v.items) e.contents) e.counts.writes;
      bound = e.bound;
      taken = λ told. e.taken;
      ended = λ told zero_is. none_left _ (omega arith);
      nothing = λ told. tt;
      cause = tt;
      others = keeps_others d c.try_fetch.new.self.desk c.args.self.now.contents.items c.try_fetch.new.self.contents.items e.stays.names (λ i. ap (λ v. content_at v.items i) e.contents) c.args.slot e.slots;
      refused = tt;
      counts = same_reads d c.try_fetch.new.self.desk c.args.self.now.contents.items c.try_fetch.new.self.contents.items e.stays.names e.counts.reads;
    }

pub returns-in-None-clause-fetches : goal.returns-in-None-clause-fetches
returns-in-None-clause-fetches c =
    let e = c.in-None.ensures in
    let d = c.args.self.now.desk in
    let f = c.file-file.result in
    let lt = input_within d.slots.items c.args.slot c.requires.input in
    let n = name d c.args.slot in
    let at : place_of d n ≡ Some f = d.placed c.args.slot lt ∙ ap Some (sym c.file-file.ensures.value) in
    let stays = stays_trans f _ _ _ e.stays c.read_failed.ensures.stays in
    record {
      reads = mem_reads n f _ _ _ _ at stays (ap (λ v. v.items) e.contents) (ap (λ v. v.items) c.read_failed.ensures.writes ∙ e.counts.writes);
      bound = tt;
      taken = λ told. tt;
      ended = λ told. tt;
      nothing = λ told. left_slots c.try_fetch.new.self.desk c.read_failed.new.self c.try_fetch.new.self.contents.items c.args.slot (ap (λ v. v.items) c.read_failed.ensures.slots) ∙ e.none;
      cause = read_rose n f _ _ c.args.self.now.contents.items c.try_fetch.new.self.contents.items at stays (counted_later f _ _ _ e.counts.reads c.read_failed.ensures.counted);
      others = tt;
      refused = keeps_slots d c.read_failed.new.self c.args.self.now.contents.items c.try_fetch.new.self.contents.items stays.names (λ i. ap (λ v. content_at v.items i) e.contents) (ap (λ v. v.items) c.read_failed.ensures.slots ∙ e.kept);
      counts = tt;
    }

pub returns-in-None-clause-counts : goal.returns-in-None-clause-counts
returns-in-None-clause-counts c =
    let e = c.in-None.ensures in
    let d = c.args.self.now.desk in
    let f = c.file-file.result in
    let lt = input_within d.slots.items c.args.slot c.requires.input in
    counts_read (name d c.args.slot) f _ _ c.args.self.now.contents.items c.try_fetch.new.self.contents.items (d.placed c.args.slot lt ∙ ap Some (sym c.file-file.ensures.value)) (stays_trans f _ _ _ e.stays c.read_failed.ensures.stays)
    (counted_later f _ _ _ e.counts.reads c.read_failed.ensures.counted) (ap (λ v. v.items) c.read_failed.ensures.writes ∙ e.counts.writes)
