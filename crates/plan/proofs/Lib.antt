pub mod Climbs
pub mod Every
pub mod Facts
