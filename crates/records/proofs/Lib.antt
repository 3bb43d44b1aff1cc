pub mod Chunks
pub mod Runs
pub mod Lists
pub mod Spelling
