pub mod Bodies
pub mod Acting
pub mod Alike
pub mod Images
pub mod Replays
mod BodyTextLemmas
mod ExpressionTextLemmas
mod ObjectDeckLemmas
mod ObjectTextLemmas
mod PartTextLemmas
pub mod ScriptTextLemmas
mod SpacedLemmas
mod TallyTextLemmas
mod TextsLemmas
mod NameLemmas
mod NamingLemmas
mod ObjectLemmas
mod PartLemmas
mod OperationLemmas
mod DeckLemmas
mod CommandLemmas
mod WholeLemmas
mod TallyLemmas
mod EffectLemmas
mod ProgramLemmas
mod ExampleLemmas
