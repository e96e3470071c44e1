pub mod Texts
pub mod Runs
pub mod Printing
pub mod Transcripts
