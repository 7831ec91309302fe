-- How the spelling of a word goes on, symbol by symbol.
use Rattle.std.proofs.Common.{◌≡◌, ℕ, ◌+◌, ◌<◌, suc, zero, true, false, true≢false, List, [], ◌∷◌, ◌++◌, map, length, get_or, Option, Some, None, IfSome, slice_get, refl, sym, ap, arith, append_assoc, drop, drop-cons, add-one, nat_lt}
use Rattle.std.proofs.lemmas.Bool.{and_parts}
use Rattle.std.proofs.lemmas.Bool.Decides.{nat_tests}
use Rattle.std.specs.Option.{option_map, option_map_or, option_to_list}
use Rattle.std.proofs.lemmas.Option.{slice_get_within, slice_get-get_or}
use Rattle.mg_word.specs.Table.{Symbol, symbol_of}
use Rattle.mg_word.specs.Words.{are_terms, are_patterns}
use Rattle.mg_word.specs.declared.symbol.Kind.TheVariants.{Word}
use Rattle.mg_word.specs.Spelling.{Piece, spelled_name, behind, open_behind, spelled_within, symbol_piece, symbols_at, item_piece, item_pieces, is_known_item, variable_piece}
use Rattle.mg_word.specs.declared.item.Item.{Item}
use Rattle.mg_word.specs.declared.item.Item.TheVariants.{Sym, Var}

-- the symbols of terms are in the table
pub terms_within : (table : List Symbol) (wanted : ℕ) (word : List ℕ) → are_terms table wanted word ≡ true → (i : ℕ) → i < length word → get_or word i 0 < length table
terms_within table wanted [] fit i within = absurd (omega arith)
terms_within table zero (symbol ∷ word) fit i within = absurd (true≢false (sym fit))
terms_within table (suc wanted) (symbol ∷ word) fit i within = by (slice_get table symbol) refl fit i within (λ n. terms_within table n word)
  where
    by : (found : Option Symbol) → slice_get table symbol ≡ found → option_map_or (λ entry. are_terms table (entry.arity + wanted) word) found false ≡ true → (i : ℕ) → i < length (symbol ∷ word)
        → ((n : ℕ) → are_terms table n word ≡ true → (k : ℕ) → k < length word → get_or word k 0 < length table) → get_or (symbol ∷ word) i 0 < length table
    by None is fit i within further = absurd (true≢false (sym fit))
    by (Some entry) is fit zero within further = slice_get_within table symbol entry is
    by (Some entry) is fit (suc i) within further = further (entry.arity + wanted) fit i (omega arith)

-- a piece is appended, and the rest goes on behind it
pub piece_step : (piece : Piece) (pieces : List Piece) (brackets before after kept : List ℕ) → after ≡ before ++ (piece.text ++ behind piece.arity brackets) → kept ≡ open_behind piece.arity brackets
    → after ++ spelled_within kept pieces ≡ before ++ spelled_within brackets (piece ∷ pieces)
piece_step piece pieces brackets before after kept text opened = rw (text, opened) (simp append_assoc)

-- the same for a symbol of a table
pub symbol_step : (table : List Symbol) (id : ℕ) (word brackets before after kept : List ℕ) → id < length table
    → IfSome (slice_get table id) (λ symbol. after ≡ before ++ (spelled_name symbol.kind symbol.name ++ behind symbol.arity brackets))
    → IfSome (slice_get table id) (λ symbol. kept ≡ open_behind symbol.arity brackets)
    → after ++ spelled_within kept (map symbol_piece (symbols_at table word)) ≡ before ++ spelled_within brackets (map symbol_piece (symbols_at table (id ∷ word)))
symbol_step table id word brackets before after kept within text opened =
    by (slice_get table id) (slice_get-get_or table id (symbol_of [] 0 Word) within) text opened
  where
    by : (found : Option Symbol) → found ≡ Some (get_or table id (symbol_of [] 0 Word))
        → IfSome found (λ symbol. after ≡ before ++ (spelled_name symbol.kind symbol.name ++ behind symbol.arity brackets))
        → IfSome found (λ symbol. kept ≡ open_behind symbol.arity brackets)
        → after ++ spelled_within kept (map symbol_piece (symbols_at table word)) ≡ before ++ spelled_within brackets (map symbol_piece (option_to_list found ++ symbols_at table word))
    by None is text opened = cc
    by (Some symbol) is text opened = piece_step (symbol_piece symbol) (map symbol_piece (symbols_at table word)) brackets before after kept text opened

-- the same for the symbol at an index of a word
pub word_step : (table : List Symbol) (word : List ℕ) (i : ℕ) (brackets before after kept : List ℕ) → i < length word → get_or word i 0 < length table
    → IfSome (slice_get table (get_or word i 0)) (λ symbol. after ≡ before ++ (spelled_name symbol.kind symbol.name ++ behind symbol.arity brackets))
    → IfSome (slice_get table (get_or word i 0)) (λ symbol. kept ≡ open_behind symbol.arity brackets)
    → after ++ spelled_within kept (map symbol_piece (symbols_at table (drop (i + 1) word))) ≡ before ++ spelled_within brackets (map symbol_piece (symbols_at table (drop i word)))
word_step table word i brackets before after kept inside within text opened =
    rw (add-one, drop-cons word i 0) (symbol_step table (get_or word i 0) (drop (suc i) word) brackets before after kept within text opened)

-- the items of patterns are in the table
pub patterns_known : (table : List Symbol) (variables wanted : ℕ) (items : List Item) → are_patterns table variables wanted items ≡ true → (i : ℕ) (d : Item) → i < length items → is_known_item table (get_or items i d) ≡ true
patterns_known table variables wanted [] fit i d within = absurd (omega arith)
patterns_known table variables zero (item ∷ items) fit i d within = absurd (true≢false (sym fit))
patterns_known table variables (suc wanted) (Sym symbol ∷ items) fit i d within = by (slice_get table symbol) refl fit i within (λ n. patterns_known table variables n items)
  where
    by : (found : Option Symbol) → slice_get table symbol ≡ found → option_map_or (λ entry. are_patterns table variables (entry.arity + wanted) items) found false ≡ true → (i : ℕ) → i < length (Sym symbol ∷ items)
        → ((n : ℕ) → are_patterns table variables n items ≡ true → (k : ℕ) (d : Item) → k < length items → is_known_item table (get_or items k d) ≡ true) → is_known_item table (get_or (Sym symbol ∷ items) i d) ≡ true
    by None is fit i within further = absurd (true≢false (sym fit))
    by (Some entry) is fit zero within further =
        let inside = slice_get_within table symbol entry is in
        grind (arith, nat_tests)
    by (Some entry) is fit (suc i) within further = further (entry.arity + wanted) fit i d (omega arith)
patterns_known table variables (suc wanted) (Var variable ∷ items) fit zero d within = refl
patterns_known table variables (suc wanted) (Var variable ∷ items) fit (suc i) d within = patterns_known table variables wanted items (and_parts (nat_lt variable variables) (are_patterns table variables wanted items) fit).1 i d (omega arith)

-- a known item has a piece
known_piece : (table : List Symbol) (item : Item) → is_known_item table item ≡ true → (piece : Piece) × (item_piece table item ≡ Some piece)
known_piece table (Sym symbol) known =
    let inside : symbol < length table = grind (arith, nat_tests) in
    (symbol_piece (get_or table symbol (symbol_of [] 0 Word)), ap (option_map symbol_piece) (slice_get-get_or table symbol (symbol_of [] 0 Word) inside))
known_piece table (Var variable) known = (variable_piece variable, refl)

-- the step at the item at an index of a pattern
pub item_step : (table : List Symbol) (items : List Item) (i : ℕ) (d : Item) (brackets before after kept : List ℕ) → i < length items → is_known_item table (get_or items i d) ≡ true
    → IfSome (item_piece table (get_or items i d)) (λ piece. after ≡ before ++ (piece.text ++ behind piece.arity brackets))
    → IfSome (item_piece table (get_or items i d)) (λ piece. kept ≡ open_behind piece.arity brackets)
    → after ++ spelled_within kept (item_pieces table (drop (i + 1) items)) ≡ before ++ spelled_within brackets (item_pieces table (drop i items))
item_step table items i d brackets before after kept inside known text opened =
    let found = known_piece table (get_or items i d) known in
    rw (add-one, drop-cons items i d) (by (item_piece table (get_or items i d)) found.1 text opened)
  where
    by : {piece : Piece} (found : Option Piece) → found ≡ Some piece
        → IfSome found (λ piece. after ≡ before ++ (piece.text ++ behind piece.arity brackets))
        → IfSome found (λ piece. kept ≡ open_behind piece.arity brackets)
        → after ++ spelled_within kept (item_pieces table (drop (suc i) items)) ≡ before ++ spelled_within brackets (option_to_list found ++ item_pieces table (drop (suc i) items))
    by None is text opened = cc
    by (Some piece) is text opened = piece_step piece (item_pieces table (drop (suc i) items)) brackets before after kept text opened
