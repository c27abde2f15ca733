use Rattle.ct_messages.specs.Server.{query, query_refusal}
use Rattle.ct_messages.proofs.Queries.{query-reject, refused-reject, reject-refused}
use Rattle.ct_messages.proofs.laws.a_query_is_no_reject.Goals as goal

pub returns-clause-query : goal.returns-clause-query
returns-clause-query c = query-reject

pub returns-clause-answer : goal.returns-clause-answer
returns-clause-answer c = λ ports ask r e.
    (refused-reject (query_refusal ports ask) (query ports ask) r e (query-reject ports ask r e), reject-refused (query_refusal ports ask) (query ports ask) r e)
