pub mod PageLemmas
pub mod EncoderLemmas
pub mod FrontLemmas
