pub mod HashText
pub mod HashCalls
pub mod NoDuplicates
pub mod ReadHashText
pub mod code
