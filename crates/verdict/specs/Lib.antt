-- Document 01, "Verdict": rules 15 to 17, the order of all rules, and the answer.
pub mod Answers
pub mod Coverage
pub mod Verdict
pub mod Classes
pub mod Code
