-- Document 01, "Approval register". Slots says what a register's bytes are, Sound when they are sound, Steps what each call answers
-- and leaves, Paper what a caller gets of it, Runs what calls in a row answer; History speaks of calls and answers alone, as a
-- caller sees them; Reached is a register that only its calls have touched, and Promise what is promised of it.
pub mod Slots
pub mod Sound
pub mod Steps
pub mod Paper
pub mod Runs
pub mod History
pub mod Reached
pub mod Promise
