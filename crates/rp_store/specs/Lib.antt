pub mod Disk
pub mod Records
pub mod Opening
pub mod Stored
pub mod Tearing
pub use Rattle.rp_codec.specs.rp_base
pub use Rattle.rp_codec
