-- Document 01, "Verdict", rules 5 to 14: what one period may break.
pub mod Doses
pub mod Period
pub mod Code
