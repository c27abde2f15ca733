use Rattle.pcap_file.proofs.StopLemmas.{step_is_answered, head_is_answered}
use Rattle.pcap_file.proofs.laws.a_reader_answers_what_stands_there.Goals as goal

pub returns : goal.returns
returns c = record {
  records = λ slot before after result reads told fresh calm memory. step_is_answered slot before after result reads told fresh calm memory;
  head = λ slot old new had left result opens told room calm. head_is_answered slot old new had left result opens told room calm;
}
