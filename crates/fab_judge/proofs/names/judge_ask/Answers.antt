use Rattle.std.proofs.Common.{◌∙◌, Option, option_and_then, option_map, ap, sym, rules}
use Rattle.fab_policy.specs.State.{LivePort, port_at}
use Rattle.fab_roster.specs.Roll.{Login, login_of}
use Rattle.fab_judge.proofs.RowLemmas.{there}
use Rattle.fab_judge.proofs.names.judge_ask.Goals as goal

pub judge_query-requires-clause-live : goal.judge_query-requires-clause-live
judge_query-requires-clause-live c = there login_of (port_at c.args.frame.now.head.s_id c.args.roster.now.tables.ports) c.args.login.now c.requires.live

pub judge_refusal-requires : goal.judge_refusal-requires
judge_refusal-requires c = there login_of (port_at c.args.frame.now.head.s_id c.args.roster.now.tables.ports) c.args.login.now c.requires.live

pub judge_query-requires-clause-server : goal.judge_query-requires-clause-server
judge_query-requires-clause-server c = λ p at.
    ap (λ (o : Option Login). option_and_then (λ (l : Login). l.server_size) o) (ap (λ (o : Option LivePort). option_map login_of o) (sym at) ∙ c.requires.live) ∙ c.in-Some.is

pub returns-in-Some-judge_refusal : goal.returns-in-Some-judge_refusal
returns-in-Some-judge_refusal c =
    let refused = c.in-Some-judge_refusal.ensures.some c.args.config.now in
    record {
      judged = λ p live.
          let says = refused.judged p live in
          let at = ap (λ (o : Option Login). option_and_then (λ (l : Login). l.server_size) o) (ap (λ (o : Option LivePort). option_map login_of o) (sym live) ∙ c.requires.live) ∙ c.in-Some.is in
          search rules;
      grounds = refused.grounds;
      kind = refused.kind;
    }
