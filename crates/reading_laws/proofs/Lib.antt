pub mod Steps
pub mod Opened
pub mod Tried
pub mod ByRules
pub mod Whole
pub mod Joined
