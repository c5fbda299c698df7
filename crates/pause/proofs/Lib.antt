-- The laws that other crates' proofs cite.
pub mod Lists
pub mod Filled
pub mod InSight
