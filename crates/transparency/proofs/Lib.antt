pub mod Claims
pub mod Dispatched
pub mod TallyCalls
pub mod SecretCalls
