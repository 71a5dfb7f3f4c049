pub mod Decimals
pub mod Numbers
pub mod Padding
pub mod Parts
pub mod Places
pub mod Quotes
pub mod Unescape
