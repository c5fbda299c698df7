-- The laws that other crates' proofs cite.
pub mod Emptiness
pub mod SameClass
pub mod Parts
pub mod FirstEight
pub mod Found
pub mod Marks
pub mod DoseRecord
