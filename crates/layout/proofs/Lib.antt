-- Reading is the inverse of laying out, and laying out that of reading; what is laid out breaks none of rules 1 to 4.
pub mod Every
pub mod Runs
pub mod Blocks
pub mod Content
pub mod Standing
pub mod Back
pub mod Formed
pub mod Bytes
pub mod Fitting
pub mod Rebuild
pub mod PeriodAgain
pub mod Again
