use Rattle.fip_codec.proofs.Grammar.{IsFip-from_decoded}
use Rattle.fip_codec.proofs.Unique.{decoded-from_IsFip, one_message}
use Rattle.fip_codec.proofs.laws.the_grammar_is_what_is_decoded.Goals as goal

pub returns-clause-read : goal.returns-clause-read
returns-clause-read c = λ m l. (IsFip-from_decoded m l, decoded-from_IsFip m l)

pub returns-clause-unique : goal.returns-clause-unique
returns-clause-unique c = one_message
