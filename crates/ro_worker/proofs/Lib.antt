pub mod AnswerLaws
pub mod OutcomeLaws
pub mod ReplyLaws
pub mod SelectLaws
pub mod ServingLaws
pub mod TurnLaws
