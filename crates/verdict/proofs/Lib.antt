-- The laws that the proofs cite.
pub mod Members
pub mod Apart
pub mod Meeting
pub mod DayAfter
pub mod Reach
pub mod Alike
pub mod Lowest
pub mod Exactly
pub mod Passing
