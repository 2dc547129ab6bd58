pub mod Decimal
pub mod Calendar
pub mod Unicode
pub mod Spaces
pub mod ValueOrder
pub mod code
