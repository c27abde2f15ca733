use Rattle.std.proofs.Common.{◌≡◌, ◌∙◌, ◌-◌, sym, ap, Some, None, arith, length, ◌++◌, ◌∷◌, []}
use Rattle.std.proofs.lemmas.Grind.{common_steps}
use Rattle.fab_base.specs.Desk.{place_of}
use Rattle.fab_base.proofs.KnowLemmas.{own_place, own_file, added_learns}
use Rattle.fab_base.proofs.mem_depot.MemDepot.place_or_new.Goals as goal

pub returns-clause-place : goal.returns-clause-place
returns-clause-place c =
    let was = c.args.self.now.contents.items in
    let unknown : place_of c.args.self.now.desk c.args.name.now ≡ None = sym c.place.ensures.found ∙ c.in_default.is in
    let grown : c.push.new.self.items ≡ was ++ None ∷ [] = grind (arith, common_steps) in
    let last : length was ≡ c.len.result - 1 = grind (arith, common_steps) in
    (own_place c.args.name.now c.args.self.now.desk c.know.new.self was c.push.new.self.items unknown c.in_ok-know.ensures.ok grown c.args.self.now.paired ∙ ap Some last, grind (arith, common_steps))

pub returns-clause-learns : goal.returns-clause-learns
returns-clause-learns c =
    let was = c.args.self.now.contents.items in
    let unknown : place_of c.args.self.now.desk c.args.name.now ≡ None = sym c.place.ensures.found ∙ c.in_default.is in
    let grown : c.push.new.self.items ≡ was ++ None ∷ [] = grind (arith, common_steps) in
    added_learns c.args.name.now c.args.self.now.desk c.know.new.self was c.push.new.self.items unknown c.in_ok-know.ensures.ok grown c.args.self.now.paired

pub returns-clause-file : goal.returns-clause-file
returns-clause-file c =
    let was = c.args.self.now.contents.items in
    let unknown : place_of c.args.self.now.desk c.args.name.now ≡ None = sym c.place.ensures.found ∙ c.in_default.is in
    let grown : c.push.new.self.items ≡ was ++ None ∷ [] = grind (arith, common_steps) in
    own_file c.args.name.now c.args.self.now.desk c.know.new.self was c.push.new.self.items unknown c.in_ok-know.ensures.ok grown c.args.self.now.paired
