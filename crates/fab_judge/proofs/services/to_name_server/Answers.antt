use Rattle.fab_judge.proofs.services.to_name_server.Goals as goal

pub returns-in-Plogi-clause-grounds : goal.returns-in-Plogi-clause-grounds
returns-in-Plogi-clause-grounds c = λ c' T x flogi f live to layout. c.judge_server_login.ensures.grounds c' T x flogi f live to (rw c.in-Plogi.is at layout).1
