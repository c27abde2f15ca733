use Rattle.fip_codec.proofs.Spelled.{reads_back}
use Rattle.fip_codec.proofs.laws.a_written_message_is_read_back.Goals as goal

pub returns : goal.returns
returns c = reads_back
