pub mod Placing
pub mod Words
pub mod Putting
