-- A law that the calls rest on.
pub mod Sums
