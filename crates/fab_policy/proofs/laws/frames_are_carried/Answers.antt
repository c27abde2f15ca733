-- The laws are lemmas.
use Rattle.fab_policy.proofs.Carried.{sources_are_read, logins_are_carried, bodies_are_carried, parms_are_asked, answers_are_asked}
use Rattle.fab_policy.proofs.laws.frames_are_carried.Goals as goal

pub returns-clause-source : goal.returns-clause-source
returns-clause-source c = sources_are_read

pub returns-clause-login : goal.returns-clause-login
returns-clause-login c = logins_are_carried

pub returns-clause-body : goal.returns-clause-body
returns-clause-body c = bodies_are_carried

pub returns-clause-parms : goal.returns-clause-parms
returns-clause-parms c = parms_are_asked

pub returns-clause-answer : goal.returns-clause-answer
returns-clause-answer c = answers_are_asked
