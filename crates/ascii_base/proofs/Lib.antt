mod CaseLemmas
mod Examples
pub mod LanesLemmas
pub mod ListLemmas
pub mod RangesLemmas
pub mod TokenLemmas
