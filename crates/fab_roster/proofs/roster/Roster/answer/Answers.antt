use Rattle.std.proofs.Common.{◌≡◌, List, map, Some, option_to_list, sym, ap, ◌∙◌}
use Rattle.std.proofs.lemmas.Result.{IfOk-weaker}
use Rattle.ct_messages.specs.Ask.{view}
use Rattle.ct_messages.specs.Server as server
use Rattle.ct_messages.specs.Server.{Known}
use Rattle.login_table.specs.Logins.{added}
use Rattle.name_server.specs.Registry as registry
use Rattle.fab_policy.specs.Queries.{known_to}
use Rattle.fab_policy.specs.State.{LivePort, port_at}
use Rattle.fab_roster.specs.Reaching.{seen_port}
use Rattle.fab_roster.proofs.Asked.{Serves, all_serve, pair_serves}
use Rattle.fab_roster.proofs.Lookups.{login_there}
use Rattle.fab_roster.proofs.Seen.{answer_law, seen_of}
use Rattle.fab_roster.proofs.roster.Roster.answer.Goals as goal
use Rattle.fab_roster.proofs.roster.Roster.answer.Goals.{After-seen, in-Some-asked_of+in_ok-seen, in_default-asked_of+in_ok-seen-2}

pub unreachable-requires : goal.unreachable-requires
unreachable-requires c =
    let found = login_there c.self.inside c.self.view_is c.args.asker c.requires.live in cc (found.1, c.in_default.ensures.login)

-- what is handed to the name server serves the query
serves : (c : After-seen) →
    Serves c.self.inside.registry.entries (seen_of c.args.config.now c.args.zones.now c.now-at.result c.in-Some.login.now c.self.inside.logins.logins) c.args.asker (view c.args.ask.now) c.match-asked_of.seen
serves c =
    let t = c.self.invariant in
    let s = c.args.config.now in
    let z = c.args.zones.now in
    let l = c.in-Some.login.now in
    let found = sym c.in-Some.ensures.login in
    let ask = view c.args.ask.now in
    elim c.match-asked_of.branch [
      | in-Some-asked_of+in_ok-seen w ↦
          pair_serves t s z c.now-at.result c.args.asker l found ask w.in-Some-asked_of.address c.match-asked_of.seen (sym w.in-Some-asked_of.ensures)
          (w.seen-is ∙ (w.in_ok-seen.ensures ∙ ap (λ o. map (seen_port s) (added l (option_to_list o))) w.seen_login-asked.ensures))
      | in_default-asked_of+in_ok-seen-2 w ↦ all_serve t s z c.now-at.result c.args.asker l found ask c.match-asked_of.seen (w.seen-is ∙ w.in_ok-seen-2.ensures)
    ]

pub answer-requires-clause-entered : goal.answer-requires-clause-entered
answer-requires-clause-entered c = (serves c.before).entered

pub answer-requires-clause-asker : goal.answer-requires-clause-asker
answer-requires-clause-asker c = (serves c.before).itself

pub returns-clause-answer : goal.returns-clause-answer
returns-clause-answer c =
    let i = c.self.inside in
    let ask = view c.args.ask.now in
    IfOk-weaker c.answer.result
    (λ tell. tell ≡ server.answer (registry.known i.registry.entries c.match-asked_of.seen) ask)
    (λ tell. (b : LivePort) → port_at c.args.asker c.args.self.now.tables.ports ≡ Some b → tell ≡ server.answer (known_to c.args.config.now c.args.self.now.tables b) ask)
    (λ tell is b there. is ∙ ((serves c.before.before.before).answer ∙ ap (λ (ks : List Known). server.answer ks ask)
    (answer_law c.self.invariant c.args.config.now c.args.zones.now c.now-at.result c.args.asker c.in-Some.login.now (sym c.in-Some.ensures.login) c.requires.zones c.self.view_is c.now-at.ensures b there)))
    c.answer.ensures.answer
