pub mod WordsRead
pub mod LinesRead
pub mod PacketsRead
pub mod ItemsRead
