-- What each call of the writer makes of the buffer and of the place.
pub mod Steps
pub mod Code
