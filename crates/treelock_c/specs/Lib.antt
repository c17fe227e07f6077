pub mod Exchanges
pub mod Runs
