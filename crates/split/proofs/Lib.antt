-- What the parts of an accepted plan are like.
pub mod Kept
pub mod Next
pub mod Standing
pub mod Totals
pub mod Pieces
pub mod Room
pub mod Each
pub mod Range
pub mod Order
pub mod Runs
pub mod Adding
pub mod Brought
pub mod Days
pub mod Alone
pub mod Records
pub mod Copied
