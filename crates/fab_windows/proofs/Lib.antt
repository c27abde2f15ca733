pub mod ResultLemmas
pub mod UsesLemmas
pub mod FileLemmas
pub mod EndLemmas
pub mod StayLemmas
pub mod TickLemmas
pub mod LeftLemmas
pub mod TimedLemmas
pub mod StepLemmas
pub mod CountLemmas
pub mod TurnLemmas
pub mod GoLemmas
pub mod BeginLemmas
pub mod LineLemmas
pub mod PublishLemmas
mod WholeLemmas
mod FromLeftLemmas
mod FromTimedLemmas
mod FromWholeLemmas
pub mod SofarLemmas
pub mod NothingLemmas
pub mod FromNothingLemmas
mod FaultLemmas
mod CauseLemmas
mod PoolLemmas
mod VerdictLemmas
mod NextTickLemmas
mod FrameLemmas
mod PartLemmas
