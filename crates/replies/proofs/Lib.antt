pub mod QuestionLaws
pub mod CapacityLaws
pub mod RangeLaws
pub mod RefusalLaws
