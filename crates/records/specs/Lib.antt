pub mod Words
pub mod Records
pub mod Lists
pub mod Rows
