-- The laws of hash texts.
pub mod HashSizeLaws
pub mod ObjectLaws
pub mod GatherLaws
pub mod TextLaws
pub mod CallLaws
pub mod CutLaws
pub mod StringLaws
pub mod NamedValueLaws
pub mod ReadBackLaws
