-- Texts of documents, worked by hand.
use Rattle.std.proofs.Common.{◌≡◌, ℕ, true, false, List, [], ◌∷◌, ◌++◌, map, codes, refl, Some, None}
use Rattle.std.specs.Fmt.{decimal}
use Rattle.mg_word.specs.Table.{Symbol, symbol_of}
use Rattle.mg_word.specs.Facts.{ProblemData}
use Rattle.mg_word.specs.declared.symbol.Kind.TheVariants.{Word, Integer, Distinct}
use Rattle.mg_word.specs.declared.lit.Lit.{Lit}
use Rattle.mg_word.specs.declared.lit.PatLit.{PatLit}
use Rattle.mg_word.specs.declared.form.Form.{Form}
use Rattle.mg_word.specs.declared.item.Item.TheVariants.{Sym}
use Rattle.tree_checker.specs.declared.doc.TreeLine.TheVariants.{Form as FormLine, Clash, Barred, By}
use Rattle.proof_tree.specs.Bare.{bare}
use Rattle.proof_tree.specs.DocText.{doc_text}
use Rattle.proof_tree.proofs.TreeCounts.{trees_left}
use Rattle.term_text.specs.OwnTerms.{are_own_terms}

abbrev b : Symbol
b = symbol_of (codes "b") 0 Word

-- `p` with two arguments
abbrev p : Symbol
p = symbol_of (codes "p") 2 Word

abbrev table : List Symbol
table = b ∷ symbol_of (codes "Q r") 0 Word ∷ p ∷ symbol_of (codes "x") 0 Distinct ∷ symbol_of (codes "12") 0 Integer ∷ []

abbrev atom : PatLit
atom = record { negative = false; pattern = Sym 0 ∷ [] }

-- the first form has two conclusions, the second has none
abbrev forms : List Form
forms = record { clause = 0; variables = 0; premises = []; conclusions = atom ∷ atom ∷ [] } ∷ record { clause = 1; variables = 0; premises = atom ∷ []; conclusions = [] } ∷ []

abbrev problem : ProblemData
problem = record { symbols = table; files = []; clauses = []; forms = forms }

abbrev held : Lit
held = record { negative = false; word = 2 ∷ 0 ∷ 3 ∷ [] }

abbrev denied : Lit
denied = record { negative = true; word = 1 ∷ [] }

abbrev lines : List (List ℕ) → List ℕ
lines [] = []
lines (line ∷ more) = line ++ 10 ∷ lines more

-- a document of two blocks, with each kind of line
each_kind_of_line :
    doc_text problem (record {
      lemmas = record { inside = held ∷ denied ∷ []; outside = []; tree = Clash held ∷ [] } ∷ record { inside = []; outside = denied ∷ []; tree = By 1 ∷ [] } ∷ [];
      root = FormLine 12 ((2 ∷ 1 ∷ 4 ∷ []) ∷ (0 ∷ []) ∷ []) ∷ Barred denied ∷ FormLine 3 [] ∷ [];
    })
    ≡ lines (
    codes "mgtp tree 1" ∷ (codes "lemma " ++ decimal 1) ∷ codes "inside [p(b,\"x\"),~'Q r']" ∷ codes "outside []" ∷ codes "clash p(b,\"x\")" ∷ (codes "lemma " ++ decimal 2) ∷ codes "inside []" ∷ codes "outside [~'Q r']"
    ∷ (codes "by " ++ decimal 1) ∷ codes "root" ∷ (codes "form " ++ (decimal 12 ++ codes " [p('Q r',12),b]")) ∷ codes "barred ~'Q r'" ∷ (codes "form " ++ (decimal 3 ++ codes " []")) ∷ []
    )
each_kind_of_line = refl

-- lines that begin with `%` are passed over, other lines stay to the byte
passed_lines : bare (lines (codes "%a" ∷ codes "b%c" ∷ codes " %" ∷ [] ∷ codes "%" ∷ codes "d" ∷ []) ++ codes "%e") ≡ lines (codes "b%c" ∷ codes " %" ∷ [] ∷ codes "d" ∷ [])
passed_lines = refl

-- a last line without its feed stays
last_line : bare (codes "b") ≡ codes "b"
last_line = refl

-- a form's line brings a tree for each conclusion, and takes one
two_to_come : trees_left forms 1 (FormLine 1 [] ∷ []) ≡ Some 2
two_to_come = refl

none_to_come : trees_left forms 1 (FormLine 1 [] ∷ FormLine 2 [] ∷ FormLine 2 [] ∷ []) ≡ Some 0
none_to_come = refl

one_too_many : trees_left forms 1 (FormLine 2 [] ∷ FormLine 2 [] ∷ []) ≡ None
one_too_many = refl

-- `p(b,b),b` are two terms, and neither one nor three
terms : map (λ wanted. are_own_terms wanted (p ∷ b ∷ b ∷ b ∷ [])) (1 ∷ 2 ∷ 3 ∷ []) ≡ false ∷ true ∷ false ∷ []
terms = refl
