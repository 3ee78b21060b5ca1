pub mod Engine
pub mod Accepted
