pub mod Input
pub mod Keeping
