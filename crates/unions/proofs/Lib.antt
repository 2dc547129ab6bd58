-- The laws of runs, and of a count that is written before one.
pub mod RunLaws
pub mod MergeLaws
pub mod CountedLaws
