-- The laws of dossiers' bytes, and of their index.
pub mod DossierHeadLaws
pub mod DossierBodyLaws
pub mod DossierLayoutLaws
pub mod DossierSizeLaws
pub mod SnapshotLaws
pub mod DossierReadLaws
pub mod HeadEndLaws
pub mod RowLaws
pub mod CellLaws
pub mod MaskLaws
pub mod VersionLaws
pub mod AskLaws
pub mod AnswerLaws
pub mod DossierQuestionLaws
pub mod AcceptedLaws
pub mod LargerLaws
