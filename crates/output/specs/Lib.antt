pub mod Finding
pub mod Written
