pub mod Outcomes
pub mod Steps
pub mod Layouts
pub mod Turns
pub mod Touched
