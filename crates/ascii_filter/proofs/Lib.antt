pub mod CheckLemmas
pub mod EscapedLemmas
pub mod QuotedLemmas
pub mod ScannerLemmas
pub mod VisitLemmas
