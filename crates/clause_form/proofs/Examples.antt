-- Forms of a clause and their lines, worked by hand.
use Rattle.std.proofs.Common.{◌≡◌, ℕ, Bool, true, false, List, [], ◌∷◌, ◌++◌, map, codes, refl}
use Rattle.std.specs.Fmt.{decimal}
use Rattle.mg_word.specs.Table.{Symbol, symbol_of}
use Rattle.mg_word.specs.Forms.{clause_forms}
use Rattle.mg_word.specs.declared.symbol.Kind.TheVariants.{Word}
use Rattle.mg_word.specs.declared.item.Item.{Item}
use Rattle.mg_word.specs.declared.item.Item.TheVariants.{Sym, Var}
use Rattle.mg_word.specs.declared.lit.PatLit.{PatLit}
use Rattle.mg_word.specs.declared.clause.ClauseLit.TheVariants.{True, False, Lit as Literal}
use Rattle.mg_word.specs.declared.clause.Clause.{Clause}
use Rattle.mg_word.specs.declared.clause.Name.{Name}
use Rattle.mg_word.specs.declared.form.Form.{Form}
use Rattle.clause_form.specs.Free.{is_free}
use Rattle.clause_form.specs.Lines.{form_line}
use Rattle.clause_form.specs.Renumbering.{clause_renumbered}

-- `b`, `'Q r'` and `p` with two arguments
abbrev table : List Symbol
table = symbol_of (codes "b") 0 Word ∷ symbol_of (codes "Q r") 0 Word ∷ symbol_of (codes "p") 2 Word ∷ []

abbrev name : Name
name = record { kind = Word; text = codes "It is" }

abbrev form_of : List PatLit → List PatLit → Form
form_of premises conclusions = record { clause = 0; variables = 12; premises = premises; conclusions = conclusions }

abbrev lit : Bool → List Item → PatLit
lit negative pattern = record { negative = negative; pattern = pattern }

-- the line of a form of that clause, with that number, behind the colon
abbrev line : ℕ → List ℕ → List ℕ
line number rest = (codes "form " ++ (decimal number ++ codes " 'It is': ")) ++ rest

-- a line with two literals on each side
two_on_each_side :
    form_line table name 12 (form_of (lit false (Sym 2 ∷ Sym 1 ∷ Sym 0 ∷ []) ∷ lit true (Sym 1 ∷ []) ∷ []) (lit true (Sym 1 ∷ []) ∷ lit false (Sym 2 ∷ Sym 0 ∷ Sym 0 ∷ []) ∷ []))
    ≡ line 12 (codes "p('Q r',b), ~'Q r' -> ~'Q r'; p(b,b)")
two_on_each_side = refl

-- lines with a side that is empty
no_premise : form_line table name 1 (form_of [] (lit false (Sym 0 ∷ []) ∷ [])) ≡ line 1 (codes "-> b")
no_premise = refl

no_conclusion : form_line table name 1 (form_of (lit false (Sym 0 ∷ []) ∷ []) []) ≡ line 1 (codes "b ->")
no_conclusion = refl

neither : form_line table name 1 (form_of [] []) ≡ line 1 (codes "->")
neither = refl

-- `~p(X1,b) | $false | 'Q r' | ~b` with the items [3] and [4,1]
abbrev clause : Clause
clause = record {
  name = name;
  place = record { file = 0; line = 1; column = 1 };
  literals = Literal (lit true (Sym 2 ∷ Var 0 ∷ Sym 0 ∷ [])) ∷ False ∷ Literal (lit false (Sym 1 ∷ [])) ∷ Literal (lit true (Sym 0 ∷ [])) ∷ [];
  variables = codes "X" ∷ [];
  conclude = (3 ∷ []) ∷ (4 ∷ 1 ∷ []) ∷ [];
}

-- its forms, in the order of the items
three_forms :
    clause_forms 7 clause
    ≡ record { clause = 7; variables = 1; premises = lit false (Sym 2 ∷ Var 0 ∷ Sym 0 ∷ []) ∷ lit false (Sym 0 ∷ []) ∷ []; conclusions = lit false (Sym 1 ∷ []) ∷ [] }
    ∷ record { clause = 7; variables = 1; premises = lit false (Sym 2 ∷ Var 0 ∷ Sym 0 ∷ []) ∷ lit false (Sym 0 ∷ []) ∷ []; conclusions = lit false (Sym 1 ∷ []) ∷ [] }
    ∷ record { clause = 7; variables = 1; premises = lit true (Sym 1 ∷ []) ∷ []; conclusions = lit true (Sym 2 ∷ Var 0 ∷ Sym 0 ∷ []) ∷ lit true (Sym 0 ∷ []) ∷ [] } ∷ []
three_forms = refl

-- a clause with `$true` has none
no_form : clause_forms 0 (record { name = name; place = clause.place; literals = Literal (lit false (Sym 0 ∷ [])) ∷ True ∷ []; variables = []; conclude = (1 ∷ []) ∷ [] }) ≡ []
no_form = refl

-- the symbols of the clause by new numbers: what had number 2 has number 1
moved :
    (clause_renumbered (0 ∷ 2 ∷ 1 ∷ []) clause).literals
    ≡ Literal (lit true (Sym 1 ∷ Var 0 ∷ Sym 0 ∷ [])) ∷ False ∷ Literal (lit false (Sym 2 ∷ [])) ∷ Literal (lit true (Sym 0 ∷ [])) ∷ []
moved = refl

-- a variable of a conclusion alone is free, one of a premise is not
one_free : map (is_free (form_of (lit false (Sym 2 ∷ Var 0 ∷ Var 1 ∷ []) ∷ []) (lit true (Sym 2 ∷ Var 1 ∷ Var 2 ∷ []) ∷ []))) (0 ∷ 1 ∷ 2 ∷ 3 ∷ []) ≡ false ∷ false ∷ true ∷ false ∷ []
one_free = refl
