-- The bytes of symbols that are right for their kind may stand in a name.
use Rattle.std.proofs.Common.{◌≡◌, ℕ, true, nat_eq, List}
use Rattle.std.specs.List.{list_all}
use Rattle.mg_word.specs.Facts.{is_name_byte, is_plain_number}
use Rattle.mg_word.proofs.Members.{both_true}
use Rattle.mg_word.proofs.NameTexts.{number_named}
use Rattle.cnf_grammar.specs.Meaning.{Kind, word_kind, integer_kind, distinct_kind, Symbol, symbol_item}
use Rattle.cnf_grammar.specs.Soundness.{suits, item_suits}

kind_named : (kind : Kind) (text : List ℕ) (arity : ℕ) → suits kind text arity ≡ true → list_all is_name_byte text ≡ true
kind_named word_kind text arity holds = holds
kind_named integer_kind text arity holds = number_named text (both_true (is_plain_number text) (nat_eq arity 0) holds).0
kind_named distinct_kind text arity holds = (both_true (list_all is_name_byte text) (nat_eq arity 0) holds).0

-- a symbol that is right for its kind has name bytes alone
pub text_named : (symbol : Symbol) → item_suits (symbol_item symbol) ≡ true → list_all is_name_byte symbol.text ≡ true
text_named symbol holds = kind_named symbol.kind symbol.text symbol.arity holds
