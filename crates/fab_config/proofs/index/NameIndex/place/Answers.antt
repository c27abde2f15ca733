use Rattle.std.proofs.Common.{◌∙◌, sym, ap}
use Rattle.fab_config.specs.Names.{place}
use Rattle.fab_config.proofs.IndexLemmas.{place-is}
use Rattle.fab_config.proofs.index.NameIndex.place.Goals as goal

pub returns-clause-value : goal.returns-clause-value
returns-clause-value c = c.get_index_of.ensures.index ∙ sym (place-is c.args.name.now c.self.inside.names.keys) ∙ ap (place c.args.name.now) c.self.view_is
