pub mod OverNumbers
pub mod QuestionLaws
