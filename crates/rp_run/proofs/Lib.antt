mod PrintedNames
pub mod Among
pub mod NextNumbers
pub mod Tracing
pub mod Refusing
pub mod LeastUnsettled
mod Histories
mod Acting
mod Showing
mod Recounting
pub mod Printing
pub mod RunParts
pub mod Stepping
pub mod Taken
pub mod GoingOn
