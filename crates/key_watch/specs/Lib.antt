pub mod Arriving
pub mod KeyNumbers
pub mod Keys
pub mod Owned
pub mod Owners
pub mod Watching
