pub mod TableLemmas
pub mod SeenLemmas
pub mod FeatureLemmas
pub mod PlaceLemmas
pub mod TypeLemmas
pub mod ChangeLemmas
pub mod MarkLemmas
pub mod TypedLemmas
