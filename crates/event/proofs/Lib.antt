-- The laws of packed events.
pub mod HeadLayoutLaws
pub mod EventLayoutLaws
pub mod BitLaws
pub mod EventSizeLaws
pub mod AnswerLaws
pub mod SetLaws
pub mod HeadLaws
pub mod EventReadLaws
pub mod LookupLaws
pub mod ShapeLaws
pub mod SpaceLaws
pub mod AskLaws
pub mod EventQuestionLaws
pub mod ValueLaws
pub mod MatchLaws
pub mod SetWriteLaws
