pub mod Bare
pub mod DocLines
pub mod Standing
pub mod DocText
pub mod FirstFaults
pub mod LineLaws
pub mod Reading
