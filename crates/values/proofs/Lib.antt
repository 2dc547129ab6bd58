-- The laws of numbers, of moments, of UTF-8 and of the value spaces.
pub mod NumeralLaws
pub mod DigitLaws
pub mod NumberOrderLaws
pub mod NumberStepLaws
pub mod CalendarLaws
pub mod MomentLaws
pub mod InstantLaws
pub mod UnicodeLaws
pub mod SpaceLaws
pub mod ByteLaws
