pub mod Waiting
pub mod Pairing
pub mod Sending
pub mod Changing
pub mod Filled
pub mod Unchanged
pub mod Readying
