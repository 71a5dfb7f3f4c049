pub mod CsvLemmas
pub mod HeaderMapLemmas
pub mod HostLemmas
pub mod LastLinesLemmas
pub mod MediaTypeLemmas
pub mod ScreenLemmas
pub mod SettingLemmas
