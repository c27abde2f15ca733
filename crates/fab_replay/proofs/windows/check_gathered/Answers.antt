use Rattle.std.proofs.Common.{◌∙◌, Err, ap, length, refl, subst}
use Rattle.fab_base.specs.Seen.{Nothing}
use Rattle.fab_base.proofs.SeenLemmas.{touches_refl}
use Rattle.fab_base.specs.Slots.{NameIn}
use Rattle.fab_pages.specs.Pages.{items_in}
use Rattle.fab_replay.specs.Owed.{PagesGrow}
use Rattle.fab_replay.specs.declared.fault.CheckFault.TheVariants as fault
use Rattle.fab_replay.proofs.CountLemmas.{counts_none}
use Rattle.fab_replay.proofs.ListLemmas.{lent_back}
use Rattle.fab_replay.proofs.OwedLemmas.{owed_on}
use Rattle.fab_replay.proofs.RemainLemmas.{stays}
use Rattle.fab_replay.proofs.ResultLemmas.{told_on}
use Rattle.fab_replay.proofs.windows.check_gathered.Goals as goal

pub returns-in_err-check_shelves-clause-checks : goal.returns-in_err-check_shelves-clause-checks
returns-in_err-check_shelves-clause-checks g c = λ told x J start same h gathered owed.
    let e = c.in_err-check_shelves.field-0.0 in
    told_on c.from_residual.result e _ _ c.from_residual.ensures.1 (c.in_err-check_shelves.ensures.checks x J same h gathered)

pub returns-in_err-check_shelves-clause-touches : goal.returns-in_err-check_shelves-clause-touches
returns-in_err-check_shelves-clause-touches g c = let d = g.D.Depot.seen c.args.depot.now in touches_refl Nothing (NameIn d c.args.written.now.outs.now) d

pub returns-in-Ok-clause-checks : goal.returns-in-Ok-clause-checks
returns-in-Ok-clause-checks g c = λ told x J start same h gathered owed.
    let seen = g.D.Depot.seen in
    let s = c.in_ok-check_shelves.ensures.checks x J same h gathered in
    let grow = subst (λ l. PagesGrow x.settings (length x.records) x.from J s.0 (items_in l) (items_in c.check_shelves.new.pages)) c.deref_mut.ensures.value s.3 in (
      s.0,
      s.1,
      s.2,
      owed_on x.settings (length x.records) x.from start (seen c.args.depot.now) c.args.written.now.outs.now J c.args.course.now.owed c.requires.many owed s.0 c.check_shelves.new.pages _ c.read_on.new.self (seen c.read_on.new.depot) told c.in-Ok.ensures.reads
          (lent_back c.args.course.now.owed.pages.len c.check_shelves.new.pages c.args.course.now.owed.pages.items c.args.course.now.owed.pages.ok.0 (c.check_shelves.ensures.pages ∙ ap length c.deref_mut.ensures.value)) refl grow,
    )

-- ---- what the fabric stands for

pub returns-in_err-check_shelves-clause-left : goal.returns-in_err-check_shelves-clause-left
returns-in_err-check_shelves-clause-left g c = λ x told J same h gathered.
    told_on c.from_residual.result c.in_err-check_shelves.field-0.0 _ _ c.from_residual.ensures.1 (c.in_err-check_shelves.ensures.left x told J same h gathered)

pub returns-in-Err-clause-left : goal.returns-in-Err-clause-left
returns-in-Err-clause-left g c = λ x told J same h gathered.
    let s = c.in_ok-check_shelves.ensures.left x told J same h gathered in
    stays x told s.0 c.check_shelves.new.fabric c.check_shelves.new.place s.1 (Err fault.Read) refl (λ t. tt)

pub returns-in-Ok-clause-left : goal.returns-in-Ok-clause-left
returns-in-Ok-clause-left g c = c.in_ok-check_shelves.ensures.left

-- ---- counts of faults

pub returns-in_err-check_shelves-clause-counts : goal.returns-in_err-check_shelves-clause-counts
returns-in_err-check_shelves-clause-counts g c = counts_none (g.D.Depot.seen c.args.depot.now) c.from_residual.result
