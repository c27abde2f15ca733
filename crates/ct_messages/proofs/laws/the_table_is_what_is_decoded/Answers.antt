use Rattle.ct_messages.proofs.Decoding.{IsCt-from_decoded, decoded-from_IsCt, not_short, not_for_others, not_cut, one_request}
use Rattle.ct_messages.proofs.laws.the_table_is_what_is_decoded.Goals as goal

pub returns-clause-read : goal.returns-clause-read
returns-clause-read c = λ ask l. (IsCt-from_decoded ask l, decoded-from_IsCt ask l)

pub returns-clause-passes : goal.returns-clause-passes
returns-clause-passes c = λ ask l is. (not_short ask l is, not_for_others ask l is, not_cut ask l is)

pub returns-clause-unique : goal.returns-clause-unique
returns-clause-unique c = one_request
