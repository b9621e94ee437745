pub mod AnswerLaws
pub mod DecodingLaws
pub mod KeptLaws
pub mod ProgressLaws
pub mod ReaderLaws
pub mod SpellingLaws
