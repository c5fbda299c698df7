-- Document 01, "The block": the fields of a plan's blocks, its periods and their doses.
pub mod Fields
pub mod Classes
pub mod Periods
