pub mod Commands
pub mod Conversations
pub mod Requests
pub mod Session
pub mod Store
pub mod Words
