pub mod Table
pub mod TableLayout
pub mod TableCall
pub mod code
