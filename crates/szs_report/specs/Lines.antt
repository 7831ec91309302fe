-- The lines of each answer, after the SZS ontology.
use Rattle.std.specs.Prelude.{ℕ, List, [], ◌∷◌, ◌++◌, slice_get, codes, decimal}
use Rattle.std.specs.List.{flat_map}
use Rattle.std.specs.Option.{option_map_or}
use Rattle.mg_word.specs.Facts.{InputData}
use Rattle.mg_word.specs.Spelling.{spelled_name}
use Rattle.mg_word.specs.declared.clause.Clause.{Clause}
use Rattle.cnf_reader.specs.declared.fault.ReadKind.{ReadKind}
use Rattle.tptp_lexer.specs.declared.token.LexKind.{LexKind}
use Rattle.tptp_lexer.specs.declared.token.LexKind.TheVariants.{BadByte, OpenQuote, BadEscape, OpenComment}
use Rattle.cnf_reader.specs.declared.fault.ReadKind.TheVariants.{Lex, Expected, Role, NotCnf, Equality, Number, Defined, BadConclude, IncludeAbsent, IncludeDepth, TooManyIncludes, TooLong, TooManyClauses, TooManyLiterals, TooManyVariables, TooDeep, ProblemAbsent, Files}
use Rattle.cnf_reader.specs.declared.fault.ReadFault.{ReadFault}
use Rattle.cnf_reader.specs.declared.fault.ReadFault.TheVariants.{At, NoMemory as NoMemoryToRead}
use Rattle.clause_form.specs.declared.fault.FormFault.{FormFault}
use Rattle.clause_form.specs.declared.fault.FormFault.TheVariants.{TooHeavy, TooManyForms, NotRestricted, NoMemory as NoMemoryToForm}
use Rattle.tree_checker.specs.declared.doc.Why.{Why}
use Rattle.tree_checker.specs.declared.doc.Why.TheVariants.{Premise, NoClash, NotBarred, LemmaNumber, LemmaInside, LemmaOutside, Substitution}
use Rattle.tree_checker.specs.declared.doc_fault.DocKind.{DocKind}
use Rattle.tree_checker.specs.declared.doc_fault.DocKind.TheVariants.{Header, Syntax, Block, FormNumber, Unknown, Heavy, Order, Early, Rest}

-- parts, one after the other
abbrev pub joined : List (List ℕ) → List ℕ
joined parts = flat_map (λ part. part) parts

-- parts and a line feed behind them
abbrev pub line_of : List (List ℕ) → List ℕ
line_of parts = joined parts ++ 10 ∷ []

-- the line of a status value
abbrev pub status_line : List ℕ → List ℕ → List ℕ
status_line value name = line_of (codes "% SZS status " ∷ value ∷ codes " for " ∷ name ∷ [])

-- the status value of a fault of reading
abbrev pub read_value : ReadKind → List ℕ
read_value (Lex kind) = codes "SyntaxError"
read_value Expected = codes "SyntaxError"
read_value BadConclude = codes "SyntaxError"
read_value IncludeAbsent = codes "InputError"
read_value ProblemAbsent = codes "InputError"
read_value Files = codes "OSError"
read_value _ = codes "Inappropriate"

-- what is wrong with the bytes of a file, in words
abbrev pub lex_words : LexKind → List ℕ
lex_words BadByte = codes "byte not allowed"
lex_words OpenQuote = codes "quote not closed"
lex_words BadEscape = codes "bad escape"
lex_words OpenComment = codes "comment not closed"

-- what is wrong, in words
abbrev pub read_words : ReadKind → List ℕ
read_words (Lex kind) = lex_words kind
read_words Expected = codes "syntax error"
read_words Role = codes "role not accepted"
read_words NotCnf = codes "not a cnf formula"
read_words Equality = codes "equality not accepted"
read_words Number = codes "number not accepted"
read_words Defined = codes "defined word not accepted"
read_words BadConclude = codes "bad conclude list"
read_words IncludeAbsent = codes "include file not found:"
read_words IncludeDepth = codes "includes nested too deep"
read_words TooManyIncludes = codes "too many includes"
read_words TooLong = codes "input too long"
read_words TooManyClauses = codes "too many clauses"
read_words TooManyLiterals = codes "too many literals"
read_words TooManyVariables = codes "too many variables"
read_words TooDeep = codes "brackets nested too deep"
read_words ProblemAbsent = codes "file not found"
read_words Files = codes "read failed"

-- what is wrong, with the name of a file that is absent
abbrev pub fault_words : ReadKind → List ℕ → List ℕ
fault_words IncludeAbsent subject = read_words IncludeAbsent ++ 32 ∷ subject
fault_words kind subject = read_words kind

-- a message at a place
abbrev pub message : List ℕ → ℕ → ℕ → List ℕ → List ℕ
message file line column words = line_of (codes "mgtp: " ∷ file ∷ codes ":" ∷ decimal line ∷ codes ":" ∷ decimal column ∷ codes ": " ∷ words ∷ [])

-- the message of a fault of reading
abbrev pub read_messages : ReadFault → List (List ℕ)
read_messages (At kind file line column subject) = message file line column (fault_words kind subject) ∷ []
read_messages NoMemoryToRead = []

-- the name of a clause in its one spelling
abbrev pub clause_name : Clause → List ℕ
clause_name clause = spelled_name clause.name.kind clause.name.text

-- the text of a variable of a clause
abbrev pub variable_text : Clause → ℕ → List ℕ
variable_text clause variable = option_map_or (λ name. name) (slice_get clause.variables variable) []

-- a variable of a conclusion is in no premise, in words
abbrev pub unrestricted_words : List ℕ → ℕ → List ℕ → List ℕ
unrestricted_words name form variable =
    joined (codes "clause " ∷ name ∷ codes ", form " ∷ decimal form ∷ codes ": variable " ∷ variable ∷ codes " of a conclusion is in no premise" ∷ [])

-- what is wrong with a form, in words
abbrev pub form_words : Clause → FormFault → List ℕ
form_words clause (TooHeavy index literal) = joined (codes "clause " ∷ clause_name clause ∷ codes ", literal " ∷ decimal literal ∷ codes ": more than 4096 symbols" ∷ [])
form_words clause (TooManyForms index) = codes "too many forms"
form_words clause (NotRestricted index form variable) = unrestricted_words (clause_name clause) form (variable_text clause variable)
form_words clause NoMemoryToForm = []

-- the index of the clause that a fault of forms names
abbrev pub faulty_clause : FormFault → ℕ
faulty_clause (TooHeavy index literal) = index
faulty_clause (TooManyForms index) = index
faulty_clause (NotRestricted index form variable) = index
faulty_clause NoMemoryToForm = 0

-- the name of a file of the input
abbrev pub file_name : InputData → ℕ → List ℕ
file_name input file = option_map_or (λ name. name) (slice_get input.files file) []

-- a message at the place of a clause
abbrev pub clause_message : InputData → FormFault → Clause → List ℕ
clause_message input fault clause = message (file_name input clause.place.file) clause.place.line clause.place.column (form_words clause fault)

-- the message of a fault of forms
abbrev pub form_messages : InputData → FormFault → List (List ℕ)
form_messages input fault = option_map_or (λ clause. clause_message input fault clause ∷ []) (slice_get input.clauses (faulty_clause fault)) []

-- a message on a tree's file
abbrev pub tree_message : List ℕ → List ℕ → List ℕ
tree_message tree words = line_of (codes "mgtp: " ∷ tree ∷ codes ": " ∷ words ∷ [])

-- the commands and their options
abbrev pub usage_lines : List (List ℕ)
usage_lines =
    codes "usage: mgtp prove FILE [--workers N] [--budget N] [--weight N] [--root DIR]\n"
    ∷ codes "       mgtp models FILE [--workers N] [--budget N] [--weight N] [--root DIR]\n"
    ∷ codes "       mgtp check FILE TREE [--root DIR]\n"
    ∷ codes "       mgtp forms FILE [--root DIR]\n"
    ∷ codes "       mgtp sample K [--workers N] [--budget N]\n"
    ∷ []

-- the rule that a line of a tree breaks, in words
abbrev pub why_words : Why → List ℕ
why_words Premise = codes "premise"
why_words NoClash = codes "no clash"
why_words NotBarred = codes "not barred"
why_words LemmaNumber = codes "lemma number"
why_words LemmaInside = codes "lemma inside"
why_words LemmaOutside = codes "lemma outside"
why_words Substitution = codes "substitution"

-- what is wrong with a line of a tree's text, in words
abbrev pub kind_words : DocKind → List ℕ
kind_words Header = codes "no tree header"
kind_words Syntax = codes "line not understood"
kind_words Block = codes "lemma number not in order"
kind_words FormNumber = codes "no such form"
kind_words Unknown = codes "unknown symbol"
kind_words Heavy = codes "term too heavy"
kind_words Order = codes "literals not in order"
kind_words Early = codes "early end"
kind_words Rest = codes "line after the end"

-- the line of a tree that is not accepted
abbrev pub rejected_line : ℕ → List ℕ → List ℕ
rejected_line line words = line_of (codes "% Tree rejected at line " ∷ decimal line ∷ codes ": " ∷ words ∷ [])

-- the lines of a tree that is accepted
abbrev pub accepted_lines : List ℕ → List (List ℕ)
accepted_lines name = status_line (codes "Unsatisfiable") name ∷ codes "% Tree accepted\n" ∷ []
