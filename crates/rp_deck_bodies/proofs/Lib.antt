mod BodyLemmas
pub mod CountedLemmas
mod ExpressionsLemmas
mod LimitsLemmas
pub mod ListLemmas
