pub mod Judged
pub mod Going
pub mod Looking
pub mod LastTurns
pub mod Prepared
pub mod Buffered
