pub mod BufferCopy
pub mod Buffered
pub mod Devices
pub mod Flushes
pub mod States
pub mod Wrapped
