pub mod Applying
pub mod Leaves
