pub mod Inputs
pub mod Plans
pub use Rattle.rp_server.specs.rp_acceptor
pub use Rattle.rp_server.specs.rp_learner
pub use Rattle.rp_server.specs.rp_proposer
pub use Rattle.rp_server
