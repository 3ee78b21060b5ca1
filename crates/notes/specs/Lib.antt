pub mod Notes
pub mod Forgotten
