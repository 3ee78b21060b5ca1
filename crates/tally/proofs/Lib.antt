pub mod Adding
pub mod Fours
pub mod Held
pub mod Told
pub mod Filed
