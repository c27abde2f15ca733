use Rattle.name_server.proofs.FeatureLemmas.{first_kept}
use Rattle.name_server.proofs.values.Values.new.Goals as goal

pub invariant_of-result : goal.invariant_of-result
invariant_of-result c = rw (c.no_features.ensures, c.new.ensures, c.new-2.ensures) (first_kept c.args.node)

pub returns-clause-kept : goal.returns-clause-kept
returns-clause-kept c = rw (c.no_features.ensures, c.new.ensures, c.new-2.ensures) (first_kept c.args.node)
