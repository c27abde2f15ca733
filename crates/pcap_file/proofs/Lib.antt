mod HeadLemmas
mod NextLemmas
mod PullLemmas
mod CollectLemmas
mod StepLemmas
mod StopLemmas
mod WrittenLemmas
mod CaptureLemmas
pub mod lemmas
