pub mod Bytes
pub mod Commands
pub mod Reading
pub mod Writing
pub mod Lines
pub mod Calls
pub mod Whole
