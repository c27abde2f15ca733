use Rattle.std.proofs.Common.{◌∙◌, rules}
use Rattle.fab_pages.specs.Pages.{items_in}
use Rattle.fab_pages.proofs.pages.Sendings.write_records.Goals as goal

pub returns : goal.returns
returns c = record {
  adds = tt;
  err = c.cut_all.ensures.back (items_in c.args.pages.now) (c.deref.ensures.value ∙ c.in_ok-lengths.ensures) c.in-Err.ensures.fronts;
  count = search rules;
}
