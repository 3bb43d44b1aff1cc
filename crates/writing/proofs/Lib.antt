pub mod Images
mod Lists
mod Placing
mod Whole
