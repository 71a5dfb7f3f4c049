pub mod AnswerLemmas
pub mod EditLemmas
pub mod InsertionLemmas
pub mod ScriptLemmas
mod WordExamples
pub mod WordLemmas
