pub mod CountLemmas
pub mod FollowLemmas
pub mod LengthLemmas
pub mod StoreLemmas
pub mod WordsLemmas
