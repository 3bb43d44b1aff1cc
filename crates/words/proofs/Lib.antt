mod Digits
mod Splits
