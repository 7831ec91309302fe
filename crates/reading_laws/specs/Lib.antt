-- What the laws of this crate cite.

-- the rules by which files are tried and read
pub mod Rules
-- inputs and first faults by these rules
pub mod Outcomes
