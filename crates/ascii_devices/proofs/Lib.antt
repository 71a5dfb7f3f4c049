pub mod BufferCopyLemmas
pub mod BufferedLemmas
pub mod FlushLemmas
pub mod HistoryLemmas
pub mod ListLemmas
pub mod Walks
