-- Lemmas on the draft of a clause: variables by their places, arguments counted at a place.
use Rattle.std.proofs.Common.{◌≡◌, ℕ, zero, suc, ◌<◌, ◌≤◌, Bool, true, false, not, cond, List, [], ◌∷◌, ◌++◌, map, length, get_or, All, refl, sym, ap, ◌∙◌, arith, subst, nat_eq, nat_le}
use Rattle.std.proofs.Math.ListN.{set}
use Rattle.std.specs.Str.{bytes_eq}
use Rattle.std.proofs.lemmas.Bool.Decides.{nat_tests}
use Rattle.std.proofs.lemmas.List.Elements.{All-head, All-tail}
use Rattle.std.proofs.lemmas.Slice.Eq.{bytes_eq-Decides}
use Rattle.cnf_grammar.proofs.Once.{number_known as index_below}
use Rattle.cnf_reader.specs.Faults.{lacks_room}
use Rattle.cnf_grammar.specs.Meaning.{index_of, symbol_item}
use Rattle.cnf_grammar.specs.Draft.{add_argument, has_text, with_variable}
use Rattle.cnf_reader.specs.Sound.{HasFew}
use Rattle.cnf_reader.specs.Drafts.{item_seen, kind_seen, text_seen}
use Rattle.cnf_reader.specs.declared.draft.RawItem.{RawItem}
use Rattle.cnf_reader.specs.declared.draft.RawItem.TheVariants.{Symbol, Variable}
use Rattle.cnf_reader.specs.declared.draft.RawSymbol.{RawSymbol}

-- no argument is added past the end
pub past_end : (place : ℕ) (items : List RawItem) → length items ≤ place → map item_seen items ≡ add_argument place (map item_seen items)
past_end place [] within = refl
past_end zero (item ∷ items) within = absurd (omega arith)
past_end (suc place) (item ∷ items) within = ap (λ more. item_seen item ∷ more) (past_end place items (omega arith))

-- a variable has no arguments
pub at_variable : (place index : ℕ) (items : List RawItem) (other : RawItem) → place < length items → get_or items place other ≡ Variable index → map item_seen items ≡ add_argument place (map item_seen items)
at_variable place index [] other within is = absurd (omega arith)
at_variable zero index (Symbol symbol ∷ items) other within is = cc
at_variable zero index (Variable number ∷ items) other within is = refl
at_variable (suc place) index (item ∷ items) other within is = ap (λ more. item_seen item ∷ more) (at_variable place index items other (omega arith) is)

same_start : (first symbol : RawSymbol) → Symbol first ≡ Symbol symbol → first ≡ symbol
same_start first symbol e = cc

-- a symbol has one more
pub at_symbol : (place : ℕ) (symbol : RawSymbol) (arity : ℕ) (items : List RawItem) (other : RawItem) → place < length items → get_or items place other ≡ Symbol symbol → arity ≡ suc symbol.arity
    → map item_seen (set items place (Symbol (record symbol { arity = arity }))) ≡ add_argument place (map item_seen items)
at_symbol place symbol arity [] other within is more = absurd (omega arith)
at_symbol zero symbol arity (Variable number ∷ items) other within is more = cc
at_symbol zero symbol arity (Symbol first ∷ items) other within is more =
    let e = sym (same_start first symbol is) in
    let arities : arity ≡ suc first.arity = more ∙ ap (λ (s : RawSymbol). suc s.arity) e in
    λ i. symbol_item (record { kind = kind_seen (e i).kind; text = text_seen (e i).quoted (e i).text.now; arity = arities i }) ∷ map item_seen items
at_symbol (suc place) symbol arity (item ∷ items) other within is more = ap (λ more. item_seen item ∷ more) (at_symbol place symbol arity items other (omega arith) is more)

-- a symbol of the atom has few arguments
pub few_at : (most place : ℕ) (symbol : RawSymbol) (items : List RawItem) (other : RawItem) → place < length items → get_or items place other ≡ Symbol symbol → All (HasFew most) (map item_seen items) → symbol.arity ≤ most
few_at most place symbol [] other within is few = absurd (omega arith)
few_at most zero symbol (item ∷ items) other within is few = subst (λ x. HasFew most (item_seen x)) is (All-head (HasFew most) (item_seen item) (map item_seen items) few)
few_at most (suc place) symbol (item ∷ items) other within is few = few_at most place symbol items other (omega arith) is (All-tail (HasFew most) (item_seen item) (map item_seen items) few)

same_suc : (a b : ℕ) → nat_eq (suc a) (suc b) ≡ nat_eq a b
same_suc a b = grind (arith, nat_tests)

not_here : (b : ℕ) → nat_eq 0 (suc b) ≡ false
not_here b = grind (arith, nat_tests)

pub unknown : (variables : List (List ℕ)) (text : List ℕ) → nat_eq (index_of variables text) (length variables) ≡ not (has_text variables text)
unknown [] text = refl
unknown (other ∷ more) text = elim (bytes_eq other text) as (λ b. nat_eq (cond b 0 (suc (index_of more text))) (suc (length more)) ≡ not (cond b true (has_text more text))) [ true ↦ not_here (length more) | false ↦ same_suc (index_of more text) (length more) ∙ unknown more text ]

-- the place of a variable is not behind their end
pub index_within : (variables : List (List ℕ)) (text : List ℕ) → index_of variables text ≤ length variables
index_within [] text = omega arith
index_within (other ∷ more) text = let less = index_within more text in elim (bytes_eq other text) as (λ b. cond b 0 (suc (index_of more text)) ≤ suc (length more)) [ true ↦ omega arith | false ↦ omega (arith, less) ]

-- a text is itself
pub same_text : (text : List ℕ) → bytes_eq text text ≡ true
same_text text = (bytes_eq-Decides text text).1 refl

new_behind : (other : List ℕ) (more : List (List ℕ)) (text : List ℕ) (b : Bool) → bytes_eq other text ≡ b → cond (bytes_eq other text) true (has_text more text) ≡ false → (has_text more text ≡ false → index_of (more ++ text ∷ []) text ≡ index_of more text)
    → cond (bytes_eq other text) 0 (suc (index_of (more ++ text ∷ []) text)) ≡ cond (bytes_eq other text) 0 (suc (index_of more text))
new_behind other more text true test none go = rw test refl
new_behind other more text false test none go = rw test (ap suc (go (rw test at none)))

-- a new variable goes last
pub new_last : (variables : List (List ℕ)) (text : List ℕ) → has_text variables text ≡ false → index_of (variables ++ text ∷ []) text ≡ index_of variables text
new_last [] text none = rw (same_text text) refl
new_last (other ∷ more) text none =
    new_behind other more text (bytes_eq other text) refl none (new_last more text)

-- where a variable is known, it is not added
pub number_known : (variables : List (List ℕ)) (text : List ℕ) (index : ℕ) → index ≡ index_of variables text → index < length variables
    → (variables ≡ with_variable variables text) × (index ≡ index_of (with_variable variables text) text)
number_known variables text index found below =
    let has : has_text variables text ≡ true = sym (index_below variables text) ∙ grind (arith, nat_tests, found) in
    rw has (refl, found)

-- where it is new, it goes last
pub number_new : (variables : List (List ℕ)) (text : List ℕ) (index : ℕ) → index ≡ index_of variables text → length variables ≤ index
    → (variables ++ text ∷ [] ≡ with_variable variables text) × (index ≡ index_of (with_variable variables text) text)
number_new variables text index found above =
    let has : has_text variables text ≡ false = sym (index_below variables text) ∙ grind (arith, nat_tests, found) in
    rw has (refl, found ∙ sym (new_last variables text has))

-- the variable is new, where as many as may be are there
pub room_is : (variables : List (List ℕ)) (text : List ℕ) (index : ℕ) → index ≡ index_of variables text → 32 ≤ length variables → nat_eq index (length variables) ≡ lacks_room variables text
room_is variables text index found many =
    let full : nat_le 32 (length variables) ≡ true = grind (arith, nat_tests) in
    rw full (rw found (unknown variables text))
