pub mod Sizes
pub mod Words
pub mod Rest
pub mod Layout
pub mod Lent
pub mod Joins
pub mod Operations
