-- The code's own definitions: what private contracts and proofs are stated by. No rule, promise or public contract rests on these.
pub mod Parts
pub mod Zeros
pub mod Turns
