-- The laws that other crates' proofs cite.
pub mod Numbers
pub mod Put
pub mod Puts
pub mod Front
pub mod Sealing
pub mod Turns
pub mod Zero
pub mod Zeros
pub mod Pieces
pub mod Parts
pub mod Closures
