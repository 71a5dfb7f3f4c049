pub mod Checked
pub mod Options
pub mod Places
pub mod Quoted
pub mod Status
