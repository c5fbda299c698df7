-- The laws of a day's need.
pub mod Rows
pub mod Chosen
pub mod Wrapped
pub mod Found
pub mod Telling
pub mod Bound
pub mod Agreeing
