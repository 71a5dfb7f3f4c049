pub mod DecimalsLemmas
mod Examples
pub mod NotationsLemmas
pub mod NumbersLemmas
pub mod PaddingLemmas
pub mod PartsLemmas
pub mod PlaceLemmas
pub mod QuotesLemmas
pub mod UnescapeLemmas
