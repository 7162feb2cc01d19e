pub mod AddedLines
pub mod RuleLines
pub mod RuleViews
pub mod PlannedActions
pub mod GuardLines
pub mod Plans
pub use Rattle.rp_deck_declarations.specs.rp_object
