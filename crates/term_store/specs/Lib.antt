pub mod Differing
pub mod Laws
pub mod Reading
pub mod Terms
pub mod Values
pub mod Seen
