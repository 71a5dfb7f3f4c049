pub mod Commands
pub mod Deliveries
pub mod Folder
pub mod Mail
pub mod Paths
pub mod Session
