-- Document 01, "Showing a day".
pub mod Showing
