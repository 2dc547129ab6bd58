pub mod PackingLaws
pub mod UnpackingLaws
pub mod PackingExamples
