pub mod CommandLine
pub mod RefusedWords
