pub mod Asking
pub mod Clap
pub mod Given
pub mod Requests
