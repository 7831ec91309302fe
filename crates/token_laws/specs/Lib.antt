-- What the laws of this crate cite.

-- tokens that keep the laws
pub mod Solutions
