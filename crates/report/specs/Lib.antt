pub mod Report
pub mod ReportDemand1
pub mod code
