pub mod Standings
pub mod Records
pub mod Words
pub mod Table
pub mod Touches
