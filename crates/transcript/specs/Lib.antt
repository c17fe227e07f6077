pub mod Program
pub mod Transcripts
