pub mod Queues
pub mod Changes
pub mod Ready
