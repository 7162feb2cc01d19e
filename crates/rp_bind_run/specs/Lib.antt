pub mod Prints
pub use Rattle.rp_bind
pub use Rattle.rp_script.specs.rp_output
pub use Rattle.rp_script
