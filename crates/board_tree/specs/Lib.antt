pub mod Documents
pub mod Laws
pub mod Lines
pub mod Refuted
pub mod Tables
pub mod Used
pub mod Writing
