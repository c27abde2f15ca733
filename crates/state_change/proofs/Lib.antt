pub mod WatcherLemmas
