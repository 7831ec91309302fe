-- How the tokens of a statement led to where it is under way. No public clause of the reading of a problem cites this module.
use Rattle.std.specs.Prelude.{◌≡◌, ℕ, ◌+◌, ◌<◌, ◌≤◌, Bool, List, length, Option, IsTrue}
use Rattle.std.specs.List.{list_all}
use Rattle.mg_word.specs.declared.clause.Name.{Name}
use Rattle.tptp_lexer.specs.Tokens.{left_of}
use Rattle.tptp_lexer.specs.declared.cursor.Cursor.{Cursor}
use Rattle.cnf_grammar.specs.Soundness.{is_clean}
use Rattle.cnf_reader.specs.Limits.{IsWithin}
use Rattle.cnf_reader.specs.Meanings.{Written, shapes_of, TakesFront}
use Rattle.cnf_reader.specs.Sound.{AsksByName}
use Rattle.cnf_reader.specs.Statements.{fresh}
use Rattle.cnf_reader.specs.declared.kept.Kept.{Kept}
use Rattle.cnf_reader.specs.declared.part.Part.{Part}
use Rattle.cnf_reader.specs.declared.part.Part.TheVariants.{Ended, Clause, Include, Fault}
use Rattle.cnf_reader.specs.declared.pending.Pending.{Pending}

-- how many tokens are left of a text at a cursor
abbrev pub count_left : List ℕ → Cursor → ℕ
count_left bytes cursor = length (left_of bytes cursor).tokens

-- of so many tokens that were left at the start of the statement so many are left
pub record IsLed (is_full : Bool) (selections : List (Option (List Name))) (all : ℕ) (p : Pending) (left : ℕ) : Type 0 where
  pub tokens : List Written
  pub front : TakesFront is_full selections fresh tokens p
  pub clean : IsTrue (list_all is_clean (shapes_of tokens))
  pub within : IsWithin is_full selections (length tokens) p
  pub asks : AsksByName (length tokens) p.asked
  pub count : length tokens + left ≡ all

-- each new symbol was paid by a token, and so was the statement
pub record Spends (kept : Kept) (all : ℕ) (after : Kept) (left : ℕ) : Type 0 where
  pub symbols : length after.symbols + left ≤ length kept.symbols + all
  pub fewer : left < all

-- the same of a part that was read; what an include asks for has right names
abbrev pub IsPaid : Part → Kept → ℕ → Kept → ℕ → Type 0
IsPaid Ended kept all after left = after ≡ kept
IsPaid Clause kept all after left = Spends kept all after left
IsPaid (Include asked) kept all after left = Spends kept all after left × AsksByName 16777216 asked
IsPaid (Fault kind line column) kept all after left = Unit {0}
