pub mod Answers
pub mod Delivered
pub mod Exported
