pub mod LineLemmas
pub mod Lists
pub mod StopLemmas
pub mod WayLemmas
