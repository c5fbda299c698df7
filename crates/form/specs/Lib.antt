-- Document 01, "Verdict", rules 1 to 4: the form of a plan's bytes.
pub mod Answers
pub mod Form
pub mod Code
