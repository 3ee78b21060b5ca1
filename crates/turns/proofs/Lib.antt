pub mod Narrow
pub mod Given
pub mod Running
