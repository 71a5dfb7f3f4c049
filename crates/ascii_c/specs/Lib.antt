pub mod Part
pub mod Places
