pub mod Head
pub mod Event
pub mod EventLayout
pub mod EventQuestions
pub mod Agreement
pub mod Value
pub mod code
