pub mod Fronts
pub mod Gaps
pub mod Solid
pub mod OneFault
pub mod OnePlace
pub mod OneNext
pub mod OneList
