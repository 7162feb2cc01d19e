pub mod LinesLemmas
pub mod TablesLemmas
pub mod WordsLemmas
