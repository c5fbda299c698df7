-- Where what is shown lies, and what it is made of.
pub mod Stretches
pub mod Shown
