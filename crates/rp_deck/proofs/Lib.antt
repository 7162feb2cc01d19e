mod DeckLemmas
pub mod ScriptLemmas
