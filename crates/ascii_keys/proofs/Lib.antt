pub mod AsciiMapLemmas
pub mod FoldedMapLemmas
pub mod OrderLemmas
pub mod SetLemmas
