use Rattle.std.proofs.Common.{ap, ◌∙◌, rules}
use Rattle.ct_messages.specs.Ask.{view}
use Rattle.ct_messages.specs.Server as server
use Rattle.fab_policy.specs.Queries.{known_to}
use Rattle.fab_judge.specs.Judged.{judgement_of}
use Rattle.fab_judge.specs.Told.{told_as}
use Rattle.fab_judge.proofs.AskLemmas.{told, told_kind}
use Rattle.fab_judge.proofs.names.judge_query.Goals as goal

pub returns-in-Ok : goal.returns-in-Ok
returns-in-Ok c = record {
  judged = λ p live.
      let ports = known_to c.args.config.now c.args.roster.now.tables p in
      let ask = view c.args.ask.now in
      let says = ap judgement_of c.answered.ensures ∙ ap (λ t. judgement_of (told_as c.args.to c.args.size t)) (c.in-Ok.ensures.answer p live)
      ∙ told c.args.to c.args.size (server.query_refusal ports ask) (server.query ports ask) (c.a_query_is_no_reject.ensures.query ports ask) in
      let at = c.requires.server p live in
      search rules;
  grounds = search rules;
  kind = rw c.answered.ensures (told_kind c.args.to c.args.size _);
}
