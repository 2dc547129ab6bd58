pub mod LineLaws
pub mod ReportSizeLaws
pub mod ReportLaws
pub mod ReportDemandLaws
