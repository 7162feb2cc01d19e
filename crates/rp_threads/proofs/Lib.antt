pub mod Texts
pub mod Steps
pub mod Cuts
pub mod Rounds
pub mod Leads
pub mod Running
pub mod Refusals
pub mod Later
pub mod Chains
pub mod NodeChains
pub mod TaskSteps
pub mod TaskChains
pub mod Puts
pub mod Offers
pub mod Places
mod Crossings
