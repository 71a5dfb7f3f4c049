pub mod Marked
pub mod Masks
