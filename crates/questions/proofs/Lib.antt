pub mod Answering
pub mod QuestionLaws
