-- Document 01, "The block": numbers in bytes, runs of bytes, and a block's two sums.
pub mod Bytes
pub mod Sums
pub mod Code
