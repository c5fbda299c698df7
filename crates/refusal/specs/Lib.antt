-- Document 01, "Verdict": the number and the place of a refusal, and the order in which rules are named.
pub mod Refusals
pub mod Order
