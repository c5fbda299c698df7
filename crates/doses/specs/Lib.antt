-- Document 01, "A day's doses".
pub mod Doses
pub mod Code
