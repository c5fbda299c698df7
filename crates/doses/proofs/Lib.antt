-- The laws that other crates' proofs cite.
pub mod Sums
pub mod Exact
mod Left
pub mod Folding
