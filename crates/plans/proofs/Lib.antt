pub mod Deciding
pub mod Turning
