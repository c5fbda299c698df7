-- Document 01, "The block": what bytes a head, periods and their doses are laid out in, and what is read from bytes.
pub mod Layout
pub mod Reading
pub mod Code
