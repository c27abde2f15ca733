use Rattle.std.proofs.Common.{◌≡◌, ◌∙◌, Some, sym, ap, inl, inr}
use Rattle.fab_base.specs.Desk.{place_of}
use Rattle.fab_base.specs.Contents.{content_at, content_in}
use Rattle.fab_base.proofs.SlotLemmas.{keeps_slots}
use Rattle.fab_base.proofs.MemLemmas.{mem_opens_in, mem_reads, read_rose, stays_trans, counts_read, counted_later}
use Rattle.fab_base.specs.MemDepot.{Told, Missing}
use Rattle.fab_base.proofs.mem_depot.MemDepotDepot.open_in.Goals as goal

pub returns-in-Some-clause-opens : goal.returns-in-Some-clause-opens
returns-in-Some-clause-opens c =
    let e = c.in-Some.ensures in
    mem_opens_in c.args.name.now c.unwrap-file.result _ _ _ _ (sym c.place.ensures.found ∙ c.unwrap-file.ensures) e.stays c.in-Some.slot (ap (λ v. v.items) e.contents) e.fresh.0 e.fresh.1 e.there e.slots e.counts

pub returns-in-None-clause-opens : goal.returns-in-None-clause-opens
returns-in-None-clause-opens c =
    let e = c.in-None.ensures in
    let f = c.unwrap-file.result in
    let at : place_of c.args.self.now.desk c.args.name.now ≡ Some f = sym c.place.ensures.found ∙ c.unwrap-file.ensures in
    let stays = stays_trans f _ _ _ e.stays c.read_failed.ensures.stays in
    record {
      reads = mem_reads c.args.name.now f _ _ _ _ at stays (ap (λ v. v.items) e.contents) (ap (λ v. v.items) c.read_failed.ensures.writes ∙ e.counts.writes);
      fresh = tt;
      opened = tt;
      left = λ told. tt;
      cause = read_rose c.args.name.now f _ _ c.args.self.now.contents.items c.try_open_in.new.self.contents.items at stays (counted_later f _ _ _ e.counts.reads c.read_failed.ensures.counted);
      others = tt;
      refused = keeps_slots c.args.self.now.desk c.read_failed.new.self c.args.self.now.contents.items c.try_open_in.new.self.contents.items stays.names (λ i. ap (λ v. content_at v.items i) e.contents) (ap (λ v. v.items) c.read_failed.ensures.slots ∙ e.kept);
      counts = tt;
    }

pub returns-in-None-clause-counts : goal.returns-in-None-clause-counts
returns-in-None-clause-counts c =
    let e = c.in-None.ensures in
    let f = c.unwrap-file.result in
    counts_read c.args.name.now f _ _ c.args.self.now.contents.items c.try_open_in.new.self.contents.items (sym c.place.ensures.found ∙ c.unwrap-file.ensures) (stays_trans f _ _ _ e.stays c.read_failed.ensures.stays)
    (counted_later f _ _ _ e.counts.reads c.read_failed.ensures.counted) (ap (λ v. v.items) c.read_failed.ensures.writes ∙ e.counts.writes)

pub returns-in-None-clause-cause : goal.returns-in-None-clause-cause
returns-in-None-clause-cause c =
    let at : place_of c.args.self.now.desk c.args.name.now ≡ Some c.unwrap-file.result = sym c.place.ensures.found ∙ c.unwrap-file.ensures in
    elim c.in-None.ensures.cause [
      | Told told ↦ Told told
      | Missing lack ↦ Missing (elim lack [ inl none ↦ inl (ap (content_in c.args.self.now.contents.items) at ∙ none) | inr left ↦ inr left ])
    ]
