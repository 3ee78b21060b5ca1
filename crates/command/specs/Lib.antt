pub mod Refusals
pub mod Rows
pub mod Reading
pub mod Instructions
