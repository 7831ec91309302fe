-- What a token adds to a clause under way: no more items than tokens, no more arguments, and not too many variables.
use Rattle.std.proofs.Common.{◌≡◌, ℕ, zero, suc, ◌+◌, ◌≤◌, pred, Bool, true, false, not, cond, ◌&&◌, nat_le, ◌==◌, List, [], ◌∷◌, ◌++◌, length, Option, Some, None, All, refl, sym, ap, subst, arith, if◌then◌else◌}
use Rattle.std.proofs.lemmas.Bool.Decides.{nat_tests}
use Rattle.std.proofs.lemmas.List.{length-append}
use Rattle.std.proofs.lemmas.List.Elements.{All-nil, All-cons, All-head, All-tail, All-append, All-weaker}
use Rattle.mg_word.specs.declared.clause.Name.{Name}
use Rattle.cnf_grammar.specs.declared.state.State.{State}
use Rattle.cnf_grammar.specs.declared.state.State.TheVariants.{FormulaStart, LiteralStart, AtomStart, WordRead, TermStart, TermRead}
use Rattle.cnf_grammar.specs.Shapes.{Shape, Lower, Upper, Quoted, Distinct, Dollar, Number, Punct, left_round, comma, tilde, is_mark}
use Rattle.cnf_grammar.specs.Meaning.{Item, symbol_item, variable_item, ClauseLiteral, always, never, signed}
use Rattle.cnf_grammar.specs.Draft.{Draft, has_text, with_variable, add_argument, next_argument_of, close_words, constant, finish_atom, begin_literal, begin_term, end_term, end_word, collect_at}
use Rattle.cnf_reader.specs.declared.fault.ReadKind.{ReadKind}
use Rattle.cnf_reader.specs.Faults.{limit_fault, variable_fault}
use Rattle.cnf_reader.specs.Sound.{count_items, HasFew, IsNarrow}
use Rattle.cnf_reader.specs.Limits.{IsSpare}

-- the items of literals in two parts
count_append : (xs ys : List ClauseLiteral) → count_items (xs ++ ys) ≡ count_items xs + count_items ys
count_append [] ys = omega arith
count_append (x ∷ xs) ys = let more = count_append xs ys in omega (arith, more)

-- more arguments are allowed
pub few_weaker : (few many : ℕ) → few ≤ many → (item : Item) → HasFew few item → HasFew many item
few_weaker few many more (symbol_item symbol) h = omega (arith, h)
few_weaker few many more (variable_item index) h = tt

-- the same of each item of an atom
pub all_few : (few many : ℕ) → few ≤ many → (items : List Item) → All (HasFew few) items → All (HasFew many) items
all_few few many more items h = All-weaker (HasFew few) (HasFew many) (few_weaker few many more) items h

-- the same of each literal
pub all_narrow : (few many : ℕ) → few ≤ many → (literals : List ClauseLiteral) → All (IsNarrow few) literals → All (IsNarrow many) literals
all_narrow few many more literals h = All-weaker (IsNarrow few) (IsNarrow many) (λ literal narrow. all_few few many more _ narrow) literals h

-- one more argument is one more
argued : (taken position : ℕ) (items : List Item) → All (HasFew taken) items → All (HasFew (suc taken)) (add_argument position items)
argued taken position [] h = All-nil (HasFew (suc taken))
argued taken zero (symbol_item symbol ∷ items) h =
    let few : symbol.arity ≤ taken = All-head (HasFew taken) (symbol_item symbol) items h in
    All-cons (HasFew (suc taken)) (symbol_item (record symbol { arity = suc symbol.arity })) items (omega (arith, few)) (all_few taken (suc taken) (omega arith) items (All-tail (HasFew taken) (symbol_item symbol) items h))
argued taken zero (variable_item index ∷ items) h = all_few taken (suc taken) (omega arith) (variable_item index ∷ items) h
argued taken (suc position) (item ∷ items) h =
    All-cons (HasFew (suc taken)) item (add_argument position items) (few_weaker taken (suc taken) (omega arith) item (All-head (HasFew taken) item items h)) (argued taken position items (All-tail (HasFew taken) item items h))

argued_length : (position : ℕ) (items : List Item) → length (add_argument position items) ≡ length items
argued_length position [] = refl
argued_length zero (symbol_item symbol ∷ items) = refl
argued_length zero (variable_item index ∷ items) = refl
argued_length (suc position) (item ∷ items) = ap suc (argued_length position items)

-- the variables are not too many with one for which there was room
room_by : (known full : Bool) (variables : List (List ℕ)) (text : List ℕ) (fault : ReadKind) → nat_le 32 (length variables) ≡ full → length variables ≤ 32 → (if full && not known then Some fault else None) ≡ None
    → length (cond known variables (variables ++ text ∷ [])) ≤ 32
room_by true full variables text fault test few h = few
room_by false true variables text fault test few h = absurd cc
room_by false false variables text fault test few h =
    let less : suc (length variables) ≤ 32 = grind (arith, nat_tests) in
    rw (length-append variables (text ∷ [])) (omega (arith, less))

module _ (taken : ℕ) (d : Draft) (h : IsSpare taken d) where
  -- a token that adds nothing
  spare_same : IsSpare (suc taken) d
  spare_same = record {
    variables = h.variables;
    items = let few = h.items in omega (arith, few);
    literals = all_narrow taken (suc taken) (omega arith) d.literals h.literals;
    atom = all_few taken (suc taken) (omega arith) d.atom h.atom;
  }

  -- one more item, of which no argument has begun
  spare_item : (item : Item) (variables : List (List ℕ)) → HasFew (suc taken) item → length variables ≤ 32 → IsSpare (suc taken) (record d { atom = d.atom ++ item ∷ []; variables = variables })
  spare_item item variables few room = record {
    variables = room;
    items = let many = h.items in let more = length-append d.atom (item ∷ []) in omega (arith, many, more);
    literals = all_narrow taken (suc taken) (omega arith) d.literals h.literals;
    atom = All-append (HasFew (suc taken)) d.atom (item ∷ []) (all_few taken (suc taken) (omega arith) d.atom h.atom) (All-cons (HasFew (suc taken)) item [] few (All-nil (HasFew (suc taken))));
  }

  -- one more argument
  spare_argument : (position : ℕ) (open_words : List ℕ) → IsSpare (suc taken) (record d { atom = add_argument position d.atom; open_words = open_words })
  spare_argument position open_words = record {
    variables = h.variables;
    items = let many = h.items in let same = argued_length position d.atom in omega (arith, many, same);
    literals = all_narrow taken (suc taken) (omega arith) d.literals h.literals;
    atom = argued taken position d.atom h.atom;
  }

  -- a literal that takes the items of the atom, or none of them
  spare_literal : (literal : ClauseLiteral) (atom : List Item) → IsNarrow (suc taken) literal → All (HasFew (suc taken)) atom → count_items (literal ∷ []) + length atom ≤ length d.atom
      → IsSpare (suc taken) (record d { literals = d.literals ++ literal ∷ []; is_negative = false; atom = atom })
  spare_literal literal atom narrow few within = record {
    variables = h.variables;
    items = let many = h.items in let more = count_append d.literals (literal ∷ []) in omega (arith, many, more, within);
    literals = All-append (IsNarrow (suc taken)) d.literals (literal ∷ []) (all_narrow taken (suc taken) (omega arith) d.literals h.literals) (All-cons (IsNarrow (suc taken)) literal [] narrow (All-nil (IsNarrow (suc taken))));
    atom = few;
  }

  spare_constant : (truth negative : Bool) → IsSpare (suc taken) (record d { literals = d.literals ++ constant truth negative ∷ []; is_negative = false })
  spare_constant true false = spare_literal always d.atom (All-nil (HasFew (suc taken))) spare_same.atom (omega arith)
  spare_constant true true = spare_literal never d.atom (All-nil (HasFew (suc taken))) spare_same.atom (omega arith)
  spare_constant false false = spare_literal never d.atom (All-nil (HasFew (suc taken))) spare_same.atom (omega arith)
  spare_constant false true = spare_literal always d.atom (All-nil (HasFew (suc taken))) spare_same.atom (omega arith)

  spare_finished : (atom : List Item) → atom ≡ d.atom → IsSpare (suc taken) (finish_atom atom d)
  spare_finished [] same = spare_same
  spare_finished (item ∷ items) same =
      let many : length d.atom ≡ length (item ∷ items) = ap length (sym same) in
      spare_literal (signed d.is_negative (item ∷ items)) [] (subst (All (HasFew (suc taken))) (sym same) spare_same.atom) (All-nil (HasFew (suc taken))) (omega (arith, many))

  spare_begun : (s : Shape) → IsSpare (suc taken) (begin_literal s d)
  spare_begun (Lower text) = spare_item (symbol_item _) d.variables (omega arith) h.variables
  spare_begun (Quoted text) = spare_item (symbol_item _) d.variables (omega arith) h.variables
  spare_begun (Dollar text) = spare_constant _ d.is_negative
  spare_begun (Punct byte) = elim (byte == tilde) as (λ b. IsSpare (suc taken) (cond b (record d { is_negative = true }) d)) [
    | true ↦ record { variables = h.variables; items = spare_same.items; literals = spare_same.literals; atom = spare_same.atom }
    | false ↦ spare_same
  ]
  spare_begun s = spare_same

  spare_term : (s : Shape) → variable_fault d s ≡ None → IsSpare (suc taken) (begin_term s d)
  spare_term (Upper text) room = spare_item (variable_item _) (with_variable d.variables text) tt (room_by (has_text d.variables text) (nat_le 32 (length d.variables)) d.variables text _ refl h.variables room)
  spare_term (Number text plain) room = spare_item (symbol_item _) d.variables (omega arith) h.variables
  spare_term (Distinct text) room = spare_item (symbol_item _) d.variables (omega arith) h.variables
  spare_term (Lower text) room = spare_item (symbol_item _) d.variables (omega arith) h.variables
  spare_term (Quoted text) room = spare_item (symbol_item _) d.variables (omega arith) h.variables
  spare_term s room = spare_same

  spare_next : (words : List ℕ) → IsSpare (suc taken) (next_argument_of words d)
  spare_next [] = spare_same
  spare_next (position ∷ outer) = spare_argument position d.open_words

  spare_closed : (words : List ℕ) → IsSpare (suc taken) (close_words words d)
  spare_closed [] = spare_same
  spare_closed (position ∷ outer) = record { variables = h.variables; items = spare_same.items; literals = spare_same.literals; atom = spare_same.atom }

  spare_behind : (depth : ℕ) (s : Shape) → IsSpare (suc taken) (end_term depth s d)
  spare_behind zero s = spare_finished d.atom refl
  spare_behind (suc depth) s = elim (is_mark comma s) as (λ b. IsSpare (suc taken) (cond b (next_argument_of d.open_words d) (close_words d.open_words d))) [ true ↦ spare_next d.open_words | false ↦ spare_closed d.open_words ]

  spare_word : (depth : ℕ) (s : Shape) → IsSpare (suc taken) (end_word depth s d)
  spare_word depth s = elim (is_mark left_round s) as (λ b. IsSpare (suc taken) (cond b (record d { atom = add_argument (pred (length d.atom)) d.atom; open_words = pred (length d.atom) ∷ d.open_words }) (end_term depth s d))) [
    | true ↦ spare_argument (pred (length d.atom)) (pred (length d.atom) ∷ d.open_words)
    | false ↦ spare_behind depth s
  ]

  -- what a token adds stays within one token more
  pub spare_stays : (is_full : Bool) (selections : List (Option (List Name))) (state : State) (depth : ℕ) (s : Shape) → limit_fault is_full selections state d s ≡ None → IsSpare (suc taken) (collect_at state depth s d)
  spare_stays is_full selections FormulaStart depth s room = spare_begun s
  spare_stays is_full selections LiteralStart depth s room = spare_begun s
  spare_stays is_full selections AtomStart depth s room = spare_begun s
  spare_stays is_full selections WordRead depth s room = spare_word depth s
  spare_stays is_full selections TermStart depth s room = spare_term s room
  spare_stays is_full selections TermRead depth s room = spare_behind depth s
  spare_stays is_full selections state depth s room = spare_same
