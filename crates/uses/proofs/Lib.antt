pub mod Arms
pub mod Noting
