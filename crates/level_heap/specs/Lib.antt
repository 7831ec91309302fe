pub mod Arenas
pub mod Codes
pub mod Laws
pub mod Levels
pub mod Seen
pub mod Trees
