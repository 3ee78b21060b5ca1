pub mod Delivering
pub mod Alike
