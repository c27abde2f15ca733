use Rattle.fab_config.proofs.RoundLemmas.{decoded_back}
use Rattle.fab_config.proofs.SoundLemmas.{decoded_again}
use Rattle.fab_config.proofs.laws.a_written_configuration_is_read_back.Goals as goal

pub returns-clause-of_value : goal.returns-clause-of_value
returns-clause-of_value c = decoded_back

pub returns-clause-of_text : goal.returns-clause-of_text
returns-clause-of_text c = decoded_again
