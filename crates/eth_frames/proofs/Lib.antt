pub mod EthernetLemmas
