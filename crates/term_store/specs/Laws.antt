-- Laws of terms by numbers.
use Rattle.std.specs.Prelude.{◌≡◌, ℕ, List, IsTrue}
use Rattle.mg_word.specs.Table.{Symbol}
use Rattle.mg_word.specs.Words.{fits}
use Rattle.term_store.specs.Terms.{Term, word_at, IsStore, IsOver}

-- where one table gives each symbol of two terms as many arguments as it has there, equal words are words of one term
pub record WordsTellTermsApart : Type 0 where
  pub fitting : (table : List Symbol) (terms : List Term) (number : ℕ) → IsStore terms → IsOver table terms number → IsTrue (fits table (word_at terms number))
  pub apart : (table : List Symbol) (terms : List Term) (a b : ℕ) → IsStore terms → IsOver table terms a → IsOver table terms b → word_at terms a ≡ word_at terms b → a ≡ b
