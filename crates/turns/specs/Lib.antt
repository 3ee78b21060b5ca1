pub mod Endings
pub mod Runs
