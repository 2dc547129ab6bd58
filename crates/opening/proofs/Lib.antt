-- The laws of opening.
pub mod ConflictLaws
pub mod StrategyLaws
pub mod StandLaws
pub mod MarkLaws
pub mod MergeLaws
pub mod PlanLaws
pub mod WriteRoomLaws
pub mod AcceptedLaws
pub mod SizeLaws
pub mod OpenLaws
