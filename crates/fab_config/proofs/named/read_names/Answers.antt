use Rattle.std.proofs.Common.{◌≡◌, ◌∙◌, ◌∷◌, ap, sym, rules}
use Rattle.std.proofs.lemmas.Result.{err_from_is_err_and}
use Rattle.fab_config.specs.Lines.{words}
use Rattle.fab_config.specs.Values.{all_of, name}
use Rattle.fab_config.proofs.NamedLemmas.{joined, joined_more, said, unsaid}
use Rattle.fab_config.proofs.named.read_names.Goals as goal

pub returns-in_err-name : goal.returns-in_err-name
returns-in_err-name c =
    let cut : words c.loop-word.rest.now ≡ c.in-Some.word.now ∷ words c.in-Some.more.now = search rules in
    let on = c.loop-word.invariant.on ∙ ap (λ ws. joined c.loop-word.members (all_of name ws)) cut in
    let p = err_from_is_err_and c.from_residual-in_err-name.result c.from_residual-in_err-name.ensures.1 in
    rw (p.1, p.2) (unsaid name c.loop-word.members c.in-Some.word.now (words c.in-Some.more.now) (words c.args.values.now) c.in_err-name.field-0.0 on c.in_err-name.ensures)

pub loop-word-preserved : goal.loop-word-preserved
loop-word-preserved c =
    let cut : words c.loop-word.rest.now ≡ c.in-Some.word.now ∷ words c.in-Some.more.now = search rules in
    record {
      seen = c.in_ok-add_name.ensures.seen;
      on =
          c.loop-word.invariant.on ∙ ap (λ ws. joined c.loop-word.members (all_of name ws)) cut
          ∙ joined_more name c.loop-word.members c.in-Some.word.now (words c.in-Some.more.now) c.in_ok-name.name (said name c.in-Some.word.now c.in_ok-name.name c.in_ok-name.ensures)
          ∙ ap (λ l. joined l (all_of name (words c.in-Some.more.now))) (sym c.in_ok-add_name.ensures.members);
    }
