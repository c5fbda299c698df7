-- Document 01, "Split". Days is for the law that "Splitting loses and invents nothing".
pub mod Answers
pub mod Parts
pub mod Split
pub mod Days
pub mod Code
