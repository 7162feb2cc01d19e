pub mod DeclaringLemmas
mod HandlerLemmas
pub mod Offering
mod ProgramLemmas
mod RightLemmas
mod TallyLemmas
