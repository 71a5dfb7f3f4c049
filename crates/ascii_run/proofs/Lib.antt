pub mod BoundedLemmas
pub mod EditLemmas
pub mod EditRunLemmas
pub mod EndsOutputLemmas
pub mod FrontOutputLemmas
pub mod JsonTextLemmas
pub mod LineFeedLemmas
pub mod NameLemmas
pub mod OutputBufferLemmas
pub mod PlainRunLemmas
mod RunExamples
pub mod RunsLemmas
pub mod StateLemmas
pub mod StreamedLemmas
