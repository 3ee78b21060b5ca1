pub mod Entries
pub mod Finding
pub mod Messages
pub mod Parts
pub mod Rereading
