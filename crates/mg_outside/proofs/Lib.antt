mod KnownBytes
mod NamedFiles
pub mod Ends
