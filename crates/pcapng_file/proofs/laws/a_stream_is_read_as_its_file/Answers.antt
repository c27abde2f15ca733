use Rattle.pcapng_file.proofs.StreamedLemmas.{stream_file, stops_read}
use Rattle.pcapng_file.proofs.laws.a_stream_is_read_as_its_file.Goals as goal

pub returns : goal.returns
returns c = record { ends = stream_file; stops = stops_read }
