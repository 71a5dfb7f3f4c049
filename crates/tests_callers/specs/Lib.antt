pub mod Cuts
pub mod Engines
pub mod Servers
pub mod UpperPart
