mod StreamLemmas
pub mod Writing
