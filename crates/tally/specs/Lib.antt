pub mod Counted
pub mod Tallies
pub mod Filed
