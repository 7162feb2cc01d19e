pub mod Fields
pub mod Details
