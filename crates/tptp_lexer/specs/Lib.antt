-- What the contracts of this crate, and of those above it, cite.

-- how far comments go
pub mod Comments
-- where quoted forms are closed, and their faults
pub mod Quotes
-- how far numbers go
pub mod Numbers
-- the piece that a text begins with
pub mod Pieces
-- places, and how bytes move them
pub mod Spots
-- the tokens of a text, what is left at a cursor, and the text of a token
pub mod Tokens
-- what a lexer is seen as
pub mod Reading
-- the forms of tokens, without a scan
pub mod Forms
-- a text as white space, comments and tokens in turn
pub mod Cuts
-- lines and columns, without a scan
pub mod Lines
-- where faults stand, without a scan
pub mod Faults
