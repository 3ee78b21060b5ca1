pub mod Names
pub mod Events
