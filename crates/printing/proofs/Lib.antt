pub mod Fronts
pub mod Short
pub mod Tallying
pub mod Outcomes
pub mod Worked
pub mod Meaning
pub mod Dispatched
pub mod SecretLines
