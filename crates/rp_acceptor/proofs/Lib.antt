mod Splitting
mod Raising
mod Noting
mod Pages
mod Keeping
mod Comparing
mod Placing
mod Covering
pub mod Answering
pub mod Firsts
