use Rattle.std.proofs.Common.{◌∙◌, rules}
use Rattle.fab_pages.specs.Pages.{items_in}
use Rattle.fab_pages.proofs.pages.Sendings.write_records_at_once.Goals as goal

pub returns-then-write_by : goal.returns-then-write_by
returns-then-write_by g c = record {
  adds = tt;
  err = c.cut_all.ensures.back (items_in c.args.pages.now) (c.deref.ensures.value ∙ c.in_ok-lengths.ensures) c.write_by.ensures.fronts;
  count = search rules;
}
