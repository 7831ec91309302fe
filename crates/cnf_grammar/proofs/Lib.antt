pub mod Common
pub mod Accepting
pub mod Edges
mod Rests
mod Notes
mod Spelled
mod SpelledFiles
mod Completed
pub mod Joined
mod Examples
mod Readings
mod Unquoted
mod OneTerm
mod OneFile
pub mod Variables
mod Collected
mod Drafted
pub mod ItemLaws
mod ItemNumbers
pub mod Whole
pub mod Counting
pub mod Once
pub mod Sound
pub mod Clean
