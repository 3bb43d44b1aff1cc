mod Closes
pub mod Counts
mod Empties
mod Lent
mod Opens
mod Orders
mod Places
mod Rings
mod Searches
mod Tables
mod Writes
