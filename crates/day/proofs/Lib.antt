-- The laws of the calendar.
pub mod Steps
pub mod Months
pub mod Laws
pub mod Inverse
pub mod Edges
pub mod Next
