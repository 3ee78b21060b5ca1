pub mod Carried
pub mod Accepted
pub mod Starting
