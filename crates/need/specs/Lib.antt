-- Document 01, "Supply": what a day needs.
pub mod Need
pub mod Telling
