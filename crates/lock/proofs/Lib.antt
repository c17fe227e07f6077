pub mod AnyIn
pub mod Refused
pub mod OneWord
pub mod Tested
