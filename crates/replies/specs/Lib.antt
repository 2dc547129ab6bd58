pub mod Questions
pub mod Capacities
pub mod ChosenLimits
pub mod Answers
pub mod Replies
