use Rattle.std.proofs.Common.{arith, refl, ◌∷◌, []}
use Rattle.std.proofs.lemmas.Grind.{common_steps}
use Rattle.fab_base.proofs.PlaceLemmas.{placed-more}
use Rattle.fab_base.proofs.desk.Desk.know.Goals as goal

pub invariant_of-self-2-clause-placed : goal.invariant_of-self-2-clause-placed
invariant_of-self-2-clause-placed c = placed-more c.args.self.now.names.items (c.in_ok-text.text ∷ []) c.push.new.self.items c.args.self.now.slots.items (grind (arith, common_steps)) c.args.self.now.placed

pub returns-clause-ok : goal.returns-clause-ok
returns-clause-ok c = record {
  text = c.in_ok-text.text;
  says = c.in_ok-text.ensures.ok;
  names = grind (arith, common_steps);
  reads = grind (arith, common_steps);
  writes = grind (arith, common_steps);
  slots = refl;
}
