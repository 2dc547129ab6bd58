pub mod Demand1
pub mod ReplyBounds
pub mod Demand3
pub mod Marked
pub mod LargerLimits
pub mod HashIdentity
pub mod IdentityExamples
