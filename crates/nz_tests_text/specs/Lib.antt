pub mod TestAnswers
