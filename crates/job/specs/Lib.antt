pub mod Decoding
pub mod Scheduling
pub mod Prepared
