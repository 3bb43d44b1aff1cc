pub mod Growing
pub mod Named
