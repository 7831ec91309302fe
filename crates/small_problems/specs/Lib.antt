pub mod OfTexts
