pub mod Batch
pub mod Taken
pub mod code
