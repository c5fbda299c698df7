-- The code: what it reads, finds and answers, and what it writes (SlotList, Reading, Answering, Writing, Clearing, Submitting,
-- Signing). The register: what is put is read again (Update, Own), what each call shows, makes and leaves (LawBytes, LawDone,
-- LawFind, LawCalls, Kept), when a register of any make was reached (AnyRegister), what a history says of any that keeps the laws (History), that the register of slots keeps
-- them (Reached), and its promise (Promise). LawRoom is of release's output buffer, LawTold of the zeros of a refusal, LawRevision is P14.
pub mod SlotList
pub mod Reading
pub mod Answering
pub mod Writing
pub mod Clearing
pub mod Submitting
pub mod Signing
pub mod Update
pub mod Own
pub mod LawBytes
pub mod LawDone
pub mod LawFind
pub mod LawCalls
pub mod Kept
pub mod AnyRegister
pub mod History
pub mod Reached
pub mod Promise
pub mod LawRoom
pub mod LawTold
pub mod LawRevision
