pub mod Shaped
pub mod Taken
pub mod Known
pub mod Handled
pub mod Keys
pub mod Fetching
pub mod Instructed
