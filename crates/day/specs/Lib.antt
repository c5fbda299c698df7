-- Document 01, "Days".
pub mod Calendar
pub mod Days
pub mod Code
