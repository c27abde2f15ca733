use Rattle.std.proofs.Common.{◌≡◌, ◌∙◌, ◌++◌, [], ◌∷◌, List, ℕ, ap, rules}
use Rattle.fab_config.specs.Names.{place}
use Rattle.fab_config.proofs.IndexLemmas.{names_of, pushed}
use Rattle.fab_config.proofs.index.NameIndex.push.Goals as goal

pub returns-clause-ok : goal.returns-clause-ok
returns-clause-ok c =
    let name = c.args.name.now in
    let is : c.in_ok-to_vec.field-0.items ≡ name = search rules in
    ap names_of c.in_ok-insert.ensures.keys
    ∙ pushed name c.in_ok-to_vec.field-0 c.self.inside.names.keys is (ap (place name) c.self.view_is ∙ c.requires)
    ∙ ap (λ (l : List (List ℕ)). l ++ name ∷ []) c.self.view_is
