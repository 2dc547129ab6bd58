pub mod RuleQuestionLaws
pub mod MergedEventLaws
pub mod CallLaws
