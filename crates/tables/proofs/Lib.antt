pub mod Setting
pub mod Places
pub mod Writing
pub mod Blank
pub mod Chains
pub mod Sections
pub mod Cases
pub mod Standing
