-- A list of terms is spelled by no other.
use Rattle.std.proofs.Common.{◌≡◌, ℕ, zero, suc, ◌+◌, true, true≢false, List, [], ◌∷◌, ◌++◌, map, All, refl, sym, arith}
use Rattle.std.specs.List.{list_all}
use Rattle.std.proofs.lemmas.List.Elements.{All-head, All-tail}
use Rattle.mg_word.specs.Table.{Symbol}
use Rattle.mg_word.specs.Facts.{is_symbol}
use Rattle.mg_word.specs.Spelling.{spelled_symbols}
use Rattle.mg_word.specs.OneSpelling.{make_terms, ends_word}
use Rattle.mg_word.proofs.Members.{both_true, and_true}
use Rattle.mg_word.proofs.SpelledTerms.{symbols_apart}
use Rattle.term_text.specs.Brackets.{after_items, in_brackets}
use Rattle.term_text.specs.OwnTerms.{are_own_terms, IsOwnTerm}
use Rattle.term_text.proofs.Texts.{heads, tails}
use Rattle.term_text.proofs.Listing.{only_none}

pub own_made : (wanted : ℕ) (term : List Symbol) → are_own_terms wanted term ≡ true → (make_terms wanted term ≡ true) × (list_all is_symbol term ≡ true)
own_made zero [] own = (refl, refl)
own_made zero (symbol ∷ term) own = absurd (true≢false (sym own))
own_made (suc wanted) [] own = absurd (true≢false (sym own))
own_made (suc wanted) (symbol ∷ term) own =
    let parts = both_true (is_symbol symbol) (are_own_terms (symbol.arity + wanted) term) own in
    let rest = own_made (symbol.arity + wanted) term parts.1 in
    (rest.0, and_true (is_symbol symbol) (list_all is_symbol term) parts.0 rest.1)

pub term_once : (s t : List Symbol) (r u : List ℕ) → IsOwnTerm s → IsOwnTerm t → ends_word r ≡ true → ends_word u ≡ true → spelled_symbols s ++ r ≡ spelled_symbols t ++ u → (s ≡ t) × (r ≡ u)
term_once s t r u own own' ends ends' same =
    let here = own_made 1 s own in
    let there = own_made 1 t own' in
    symbols_apart s t r u here.0 there.0 here.1 there.1 ends ends' same

pub items_end : (terms : List (List Symbol)) → ends_word (after_items (map spelled_symbols terms)) ≡ true
items_end [] = refl
items_end (term ∷ terms) = refl

pub after_once : (a b : List (List Symbol)) → All IsOwnTerm a → All IsOwnTerm b → after_items (map spelled_symbols a) ≡ after_items (map spelled_symbols b) → a ≡ b
after_once [] [] own own' same = refl
after_once [] (t ∷ b) own own' same = absurd (omega (arith, heads 93 44 [] _ same))
after_once (s ∷ a) [] own own' same = absurd (omega (arith, heads 44 93 _ [] same))
after_once (s ∷ a) (t ∷ b) own own' same =
    let here = term_once s t (after_items (map spelled_symbols a)) (after_items (map spelled_symbols b)) (All-head IsOwnTerm s a own) (All-head IsOwnTerm t b own') (items_end a) (items_end b) (tails 44 44 _ _ same) in
    let first : s ≡ t = here.0 in
    let rest : a ≡ b = after_once a b (All-tail IsOwnTerm s a own) (All-tail IsOwnTerm t b own') here.1 in
    cc

pub list_once : (a b : List (List Symbol)) → All IsOwnTerm a → All IsOwnTerm b → in_brackets (map spelled_symbols a) ≡ in_brackets (map spelled_symbols b) → a ≡ b
list_once [] b own own' same = sym ((only_none (93 ∷ []) refl).only b (record { own = own'; text = sym same }))
list_once (s ∷ a) [] own own' same = (only_none (93 ∷ []) refl).only (s ∷ a) (record { own = own; text = same })
list_once (s ∷ a) (t ∷ b) own own' same =
    let here = term_once s t (after_items (map spelled_symbols a)) (after_items (map spelled_symbols b)) (All-head IsOwnTerm s a own) (All-head IsOwnTerm t b own') (items_end a) (items_end b) same in
    let first : s ≡ t = here.0 in
    let rest : a ≡ b = after_once a b (All-tail IsOwnTerm s a own) (All-tail IsOwnTerm t b own') here.1 in
    cc
