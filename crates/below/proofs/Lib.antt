-- The laws that other crates' proofs cite.
pub mod Tests
pub mod Search
pub mod Total
pub mod Lists
