-- What stands where a capture was written.
pub use Rattle.pcap_file.proofs.NextLemmas.{next_end, front_whole}
pub use Rattle.pcap_file.proofs.WrittenLemmas.{head_read}
