pub mod ArgumentLemmas
pub mod DeliveryLemmas
pub mod FolderLemmas
pub mod PathLemmas
pub mod VerbLemmas
