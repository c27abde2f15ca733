use Rattle.wire_store.proofs.WrittenLemmas.{stream_begins, stream_whole, packets_kept}
use Rattle.wire_store.proofs.laws.a_stream_of_what_was_heard_is_read_back.Goals as goal

pub returns : goal.returns
returns c = record { begins = stream_begins; whole = stream_whole; kept = packets_kept }
