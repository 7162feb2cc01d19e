pub mod Naming
mod ObjectLemmas
mod StoreLemmas
