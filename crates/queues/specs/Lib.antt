pub mod Machine
pub mod Counters
pub mod Table
pub mod Invariant
pub mod Jobs
pub mod Moves
