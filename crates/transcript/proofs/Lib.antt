pub mod Replies
pub mod Roomy
pub mod Told
