pub mod DemoSaying
pub mod RehearseSaying
pub mod SummaryTexts
