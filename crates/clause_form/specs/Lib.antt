pub mod Building
pub mod Faults
pub mod Forming
pub mod Free
pub mod Lines
pub mod Renumbering
