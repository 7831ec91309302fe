-- What is kept stays sound with the clause of a statement that is ready.
use Rattle.std.proofs.Common.{◌≡◌, ℕ, ◌<◌, ◌≤◌, Bool, true, false, cond, List, [], ◌∷◌, ◌++◌, length, All, IsTrue, sym, ◌∙◌, arith, subst, append-nil, length-append, get_or}
use Rattle.std.specs.List.{list_all}
use Rattle.std.proofs.lemmas.List.Sums.{AllPass-from_list_all, list_all-from_AllPass}
use Rattle.std.proofs.lemmas.List.Elements.{All-nil, All-head, All-tail, All-push, All-weaker}
use Rattle.mg_word.specs.Table.{Symbol}
use Rattle.mg_word.specs.Forms.{is_among}
use Rattle.mg_word.specs.Facts as facts
use Rattle.mg_word.specs.Facts.{is_symbol, IsClause, are_choices, most_conclusions}
use Rattle.mg_word.specs.declared.clause.Clause.{Clause}
use Rattle.cnf_grammar.specs.Meaning.{Kind, word_kind, integer_kind, distinct_kind, Symbol as ReadSymbol, Item, symbol_item, variable_item, ClauseLiteral, always, never, signed}
use Rattle.cnf_grammar.specs.Soundness.{suits, item_suits, literal_suits}
use Rattle.cnf_reader.specs.Bounds.{IsSmallClause, IsSmallSymbol}
use Rattle.cnf_reader.specs.Keeping.{kind_of, entry_of, with_item, with_items, with_literal, with_literals, numbered_literals, clause_of, with_clause}
use Rattle.cnf_reader.specs.Sound.{atom_of, HasFew, IsNarrow, IsReady, IsSoundKept}
use Rattle.cnf_reader.specs.declared.pending.Pending.{Pending}
use Rattle.cnf_reader.specs.declared.kept.Kept.{Kept}
use Rattle.cnf_reader.proofs.Numbering.{has}
use Rattle.cnf_reader.proofs.Occurring.{different_literals}
use Rattle.cnf_reader.proofs.Growing.{literals_grow}
use Rattle.cnf_reader.proofs.Fitting.{literals_fit, literals_have_atoms, literals_stay}
use Rattle.cnf_reader.proofs.Chosen.{literals_variables, length_numbered, all_chosen_same, few_chosen, few_conclusions}

kept_by : (P : Symbol → Type 0) (b : Bool) (table : List Symbol) (symbol : Symbol) → All P table → P symbol → All P (cond b table (table ++ symbol ∷ []))
kept_by P true table symbol all here = all
kept_by P false table symbol all here = All-push P table symbol all here

module _ (P : Symbol → Type 0) (Q : Item → Type 0) (gives : (symbol : ReadSymbol) → Q (symbol_item symbol) → P (entry_of symbol)) where
  item_keeps : (table : List Symbol) (item : Item) → All P table → Q item → All P (with_item table item)
  item_keeps table (symbol_item symbol) all here = kept_by P (has table (entry_of symbol)) table (entry_of symbol) all (gives symbol here)
  item_keeps table (variable_item index) all here = all

  items_keep : (table : List Symbol) (items : List Item) → All P table → All Q items → All P (with_items table items)
  items_keep table [] all here = all
  items_keep table (item ∷ items) all here = items_keep (with_item table item) items (item_keeps table item all (All-head Q item items here)) (All-tail Q item items here)

  literal_keeps : (table : List Symbol) (literal : ClauseLiteral) → All P table → All Q (atom_of literal) → All P (with_literal table literal)
  literal_keeps table always all here = all
  literal_keeps table never all here = all
  literal_keeps table (signed negative atom) all here = items_keep table atom all here

  -- what holds of the symbols of a table, and of those of literals, holds of the table with them
  pub literals_keep : (table : List Symbol) (literals : List ClauseLiteral) → All P table → All (λ literal. All Q (atom_of literal)) literals → All P (with_literals table literals)
  literals_keep table [] all here = all
  literals_keep table (literal ∷ literals) all here =
      literals_keep (with_literal table literal) literals (literal_keeps table literal all (All-head (λ l. All Q (atom_of l)) literal literals here)) (All-tail (λ l. All Q (atom_of l)) literal literals here)

suits_same : (kind : Kind) (text : List ℕ) (arity : ℕ) → suits kind text arity ≡ true → facts.suits (kind_of kind) text arity ≡ true
suits_same word_kind text arity right = right
suits_same integer_kind text arity right = right
suits_same distinct_kind text arity right = right

entry_suits : (symbol : ReadSymbol) → item_suits (symbol_item symbol) ≡ true → is_symbol (entry_of symbol) ≡ true
entry_suits symbol right = suits_same symbol.kind symbol.text symbol.arity right

atom_suits : (literal : ClauseLiteral) → literal_suits literal ≡ true → All (λ item. item_suits item ≡ true) (atom_of literal)
atom_suits always right = All-nil (λ item. item_suits item ≡ true)
atom_suits never right = All-nil (λ item. item_suits item ≡ true)
atom_suits (signed negative atom) right = AllPass-from_list_all item_suits atom right

symbols_named : (table : List Symbol) (literals : List ClauseLiteral) → list_all is_symbol table ≡ true → list_all literal_suits literals ≡ true → list_all is_symbol (with_literals table literals) ≡ true
symbols_named table literals named right =
    list_all-from_AllPass is_symbol (with_literals table literals)
    (literals_keep (λ symbol. is_symbol symbol ≡ true) (λ item. item_suits item ≡ true) entry_suits table literals (AllPass-from_list_all is_symbol table named)
    (All-weaker (λ literal. literal_suits literal ≡ true) (λ literal. All (λ item. item_suits item ≡ true) (atom_of literal)) atom_suits literals (AllPass-from_list_all literal_suits literals right)))

symbols_small : (table : List Symbol) (literals : List ClauseLiteral) (taken : ℕ) → taken ≤ 16777216 → All IsSmallSymbol table → All (IsNarrow taken) literals → All IsSmallSymbol (with_literals table literals)
symbols_small table literals taken few small narrow = literals_keep IsSmallSymbol (HasFew taken) one table literals small narrow
  where
    one : (symbol : ReadSymbol) → symbol.arity ≤ taken → symbol.arity ≤ 16777216
    one symbol under = omega arith

clause_stays : (table more : List Symbol) (files : ℕ) (clause : Clause) → IsClause table files clause → IsClause (table ++ more) files clause
clause_stays table more files clause is = record {
  fitting = literals_stay table more (length clause.variables) clause.literals is.fitting;
  atoms = is.atoms;
  occurring = is.occurring;
  choices = is.choices;
  positives = is.positives;
  positions = is.positions;
  place = is.place;
  literals = is.literals;
  variables = is.variables;
}

few_positions : (table : List Symbol) (p : Pending) → IsReady p → All (λ chosen. length chosen ≤ 64) p.conclude
few_positions table p ready k d below =
    let literals = numbered_literals table p.draft.literals in
    let all = all_chosen_same table p.draft.literals p.conclude ∙ ready.limited.choices in
    let rises : are_choices 0 literals (get_or p.conclude k d) ≡ true = AllPass-from_list_all (are_choices 0 literals) p.conclude all k d below in
    let few = few_chosen literals (get_or p.conclude k d) 0 (omega arith) rises in
    omega (arith, few, length_numbered table p.draft.literals, ready.limited.literals)

new_clause : (table : List Symbol) (files file : ℕ) (p : Pending) → file < files → IsReady p → IsClause (with_literals table p.draft.literals) files (clause_of table file p)
new_clause table files file p known ready =
    let literals = numbered_literals table p.draft.literals in
    let after = with_literals table p.draft.literals in
    let count = length_numbered table p.draft.literals in record {
      fitting = literals_fit (length p.draft.variables) after [] p.draft.literals table (sym (append-nil after)) ready.whole;
      atoms = literals_have_atoms (length p.draft.variables) p.draft.literals table ready.whole;
      occurring = λ variable below. subst (λ variables. IsTrue (is_among variables variable)) (sym (literals_variables table p.draft.literals)) (ready.occurring variable below);
      choices = all_chosen_same table p.draft.literals p.conclude ∙ ready.limited.choices;
      positives = omega (arith, few_conclusions literals, count, ready.limited.literals);
      positions = few_positions table p ready;
      place = known;
      literals = omega (arith, count, ready.limited.literals);
      variables = omega (arith, ready.limited.variables);
    }

-- what is kept stays sound with one more clause, while there are not too many
pub kept_sound : (kept : Kept) (file : ℕ) (p : Pending) → IsSoundKept kept → file < length kept.files → length kept.clauses < 20000 → IsReady p → IsSoundKept (with_clause kept file p)
kept_sound kept file p sound known room ready =
    let table = kept.symbols in
    let after = with_literals table p.draft.literals in
    let clause = clause_of table file p in
    let files = length kept.files in
    let grown = literals_grow table p.draft.literals in
    let stay : All (IsClause after files) kept.clauses =
    All-weaker (IsClause table files) (IsClause after files) (λ one is. subst (λ t. IsClause t files one) (sym grown.1) (clause_stays table grown.0 files one is)) kept.clauses sound.each in
    let small : IsSmallClause clause = record {
      literals = omega (arith, length_numbered table p.draft.literals, ready.limited.literals);
      variables = ready.limited.variables;
      positions = few_positions table p ready;
    } in record {
      named = symbols_named table p.draft.literals sound.named ready.suiting;
      different = different_literals p.draft.literals table sound.different;
      arities = symbols_small table p.draft.literals ready.taken ready.few sound.arities ready.limited.arities;
      each = All-push (IsClause after files) kept.clauses clause stay (new_clause table files file p known ready);
      small = All-push IsSmallClause kept.clauses clause sound.small small;
      few = omega (arith, length-append kept.clauses (clause ∷ []));
    }
