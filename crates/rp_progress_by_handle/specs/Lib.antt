pub mod ByHandle
