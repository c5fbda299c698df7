-- Document 01, "Supply": the pause records.
pub mod Pauses
pub mod Sight
