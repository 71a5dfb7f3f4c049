pub mod MarkedBackLemmas
pub mod MarkedLemmas
pub mod MasksLemmas
pub mod WindowLemmas
