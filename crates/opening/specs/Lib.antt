pub mod OpenCall
pub mod code
