pub mod CheckCall
pub mod CombineCall
pub mod code
