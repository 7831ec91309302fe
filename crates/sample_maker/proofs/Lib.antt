pub mod Digits
mod Examples
pub mod Facts
pub mod Lines
pub mod Symbols
