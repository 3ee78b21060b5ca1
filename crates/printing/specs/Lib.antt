pub mod Example
pub mod Printing
pub mod Meaning
pub mod SecretLines
