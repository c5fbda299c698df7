-- What rules 1 to 4 give the later rules.
pub mod Laws
pub mod Zeroed
pub mod Formed
pub mod Ranged
pub mod Fronts
pub mod Ranges
mod Naming
