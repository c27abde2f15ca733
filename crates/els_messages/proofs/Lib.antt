pub mod ElsLemmas
