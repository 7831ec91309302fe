pub mod Among
mod Examples
pub mod Excluding
pub mod FormFacts
pub mod FormLists
pub mod Formed
pub mod InputFacts
pub mod OneProblem
pub mod Reaching
pub mod Renumbered
pub mod SideLaws
pub mod Splits
pub mod Uniqueness
