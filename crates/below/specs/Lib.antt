-- The definitions that the rules of document 01 are made of.
pub mod Below
pub mod Lists
