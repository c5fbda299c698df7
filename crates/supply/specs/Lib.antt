-- Document 01, "Supply", and document 02, W1 and W12.
pub mod Answers
pub mod Covered
pub mod Supply
pub mod Dates
pub mod Steps
pub mod Code
