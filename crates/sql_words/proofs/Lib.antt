pub mod ReservedLemmas
pub mod Runs
pub mod ClosingQuote
pub mod FrontLaws
pub mod ReadingLaws
pub mod TokenLaws
pub mod ScanSteps
pub mod TextContent
