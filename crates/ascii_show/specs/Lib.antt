pub mod Answer
pub mod Call
pub mod Modes
pub mod Status
pub mod Words
