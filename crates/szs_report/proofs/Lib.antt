pub mod Gaining
pub mod SampleNames
pub mod Slashes
pub mod SetLines
