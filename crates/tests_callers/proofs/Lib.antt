pub mod EngineLemmas
pub mod LampLemmas
pub mod LastLemmas
pub mod Relent
pub mod TakenLemmas
