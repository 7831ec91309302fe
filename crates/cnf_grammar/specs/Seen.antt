-- What the grammar sees of a token of the code.
use Rattle.cnf_grammar.specs.declared.lexeme.Lexeme.{Lexeme}
use Rattle.cnf_grammar.specs.Shapes.{Shape, shape_of}

-- the token's shape
abbrev pub seen : Lexeme → Shape
seen token = shape_of token.kind token.text.now token.plain
