-- The laws that other crates' proofs cite.
pub mod Room
pub mod Filling
pub mod Steps
pub mod Lying
pub mod Laying
pub mod Holding
