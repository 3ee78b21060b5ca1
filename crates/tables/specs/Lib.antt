pub mod Bits
pub mod Cells
pub mod Items
pub mod Tables
pub mod Writes
pub mod Stands
pub mod Programs
