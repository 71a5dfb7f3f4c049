pub mod AsciiMapLends
pub mod FoldedMapLends
pub mod Maps
pub mod Sets
