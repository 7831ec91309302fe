-- Terms that are read from a word, from its end on.
use Rattle.std.specs.Prelude.{◌≡◌, ℕ, ◌<◌, ◌≤◌, List, ◌∷◌, ◌++◌, Some, length, take, drop, slice_get}
use Rattle.std.specs.List.{flat_map}
use Rattle.mg_word.specs.Table.{Symbol}
use Rattle.term_store.specs.Terms.{Term, term_of, word_at, IsOver}

-- the number is that of the term over the table that has this word
pub record IsTermOf (table : List Symbol) (terms : List Term) (word : List ℕ) (number : ℕ) : Type 0 where
  pub over : IsOver table terms number
  pub is : word_at terms number ≡ word

-- the number is that of a term over the table whose word stands in this one
pub record IsSubterm (table : List Symbol) (terms : List Term) (word : List ℕ) (number : ℕ) : Type 0 where
  pub over : IsOver table terms number
  pub front : List ℕ
  pub back : List ℕ
  pub stands : word ≡ front ++ (word_at terms number ++ back)

-- all numbers keep their terms, and behind them stand subterms of the word alone
pub record GrowsBy (table : List Symbol) (word : List ℕ) (old new : List Term) : Type 0 where
  pub more : List Term
  pub kept : new ≡ old ++ more
  pub subterms : (number : ℕ) → length old ≤ number → number < length new → IsSubterm table new word number

-- the numbers are those of the terms that stand in the word from that place on
pub record ArePending (table : List Symbol) (terms : List Term) (word : List ℕ) (at : ℕ) (numbers : List ℕ) : Type 0 where
  pub over : (place number : ℕ) → slice_get numbers place ≡ Some number → IsOver table terms number
  pub words : flat_map (word_at terms) numbers ≡ drop at word

-- the first numbers became the arguments of a term, whose number stands in their place
pub record IsApplied (symbol arity : ℕ) (old : List ℕ) (terms : List Term) (new : List ℕ) : Type 0 where
  pub number : ℕ
  pub held : slice_get terms number ≡ Some (term_of symbol (take arity old))
  pub left : new ≡ number ∷ drop arity old
