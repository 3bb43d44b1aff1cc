pub mod Firsts
pub mod Keeps
mod Own
mod Turns
