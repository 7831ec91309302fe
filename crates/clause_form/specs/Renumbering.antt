-- Symbols by new numbers: everything else stays as it is.
use Rattle.std.specs.Prelude.{ℕ, List, map, slice_index_or}
use Rattle.mg_word.specs.declared.item.Item.{Item}
use Rattle.mg_word.specs.declared.item.Item.TheVariants.{Sym, Var}
use Rattle.mg_word.specs.declared.lit.PatLit.{PatLit}
use Rattle.mg_word.specs.declared.clause.ClauseLit.{ClauseLit}
use Rattle.mg_word.specs.declared.clause.ClauseLit.TheVariants.{True, False, Lit as Literal}
use Rattle.mg_word.specs.declared.clause.Clause.{Clause}

-- the item, where the symbol with number k has the number at k
abbrev pub item_renumbered : List ℕ → Item → Item
item_renumbered numbers (Sym symbol) = Sym (slice_index_or numbers symbol 0)
item_renumbered numbers (Var variable) = Var variable

abbrev pub pattern_renumbered : List ℕ → List Item → List Item
pattern_renumbered numbers items = map (item_renumbered numbers) items

abbrev pub lit_renumbered : List ℕ → PatLit → PatLit
lit_renumbered numbers lit = record { negative = lit.negative; pattern = pattern_renumbered numbers lit.pattern }

abbrev pub literal_renumbered : List ℕ → ClauseLit → ClauseLit
literal_renumbered numbers True = True
literal_renumbered numbers False = False
literal_renumbered numbers (Literal lit) = Literal (lit_renumbered numbers lit)

abbrev pub clause_renumbered : List ℕ → Clause → Clause
clause_renumbered numbers clause = record {
  name = clause.name;
  place = clause.place;
  literals = map (literal_renumbered numbers) clause.literals;
  variables = clause.variables;
  conclude = clause.conclude;
}

-- each clause over the new numbers
abbrev pub renumbered : List ℕ → List Clause → List Clause
renumbered numbers clauses = map (clause_renumbered numbers) clauses
