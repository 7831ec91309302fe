pub mod EachChild
