-- What a token of a file is to the statement under way.
use Rattle.std.proofs.Common.{◌≡◌, ◌≤◌, ◌<◌, ◌+◌, ℕ, suc, Bool, true, false, true≢false, ◌&&◌, nat_le, List, [], ◌∷◌, length, drop, Option, Some, None, Ok, refl, sym, ap, ◌∙◌, arith}
use Rattle.std.proofs.lemmas.Bool.Decides.{nat_tests}
use Rattle.mg_word.specs.declared.clause.Name.{Name}
use Rattle.tptp_lexer.specs.Tokens.{Lexed, first_of, first_by, rest_of, left_of, IsTokenIn}
use Rattle.tptp_lexer.specs.declared.cursor.Cursor.{Cursor}
use Rattle.tptp_lexer.specs.declared.token.LexFault.{LexFault}
use Rattle.tptp_lexer.specs.declared.token.Token.{Token}
use Rattle.cnf_grammar.specs.Soundness.{is_clean}
use Rattle.cnf_grammar.specs.declared.state.State.{State}
use Rattle.cnf_grammar.specs.declared.state.State.TheVariants.{Statement, ClauseClosed, IncludeClosed}
use Rattle.cnf_reader.specs.Faults.{is_selected}
use Rattle.cnf_reader.specs.Files.{written_in}
use Rattle.cnf_reader.specs.Led.{IsLed, Spends, count_left}
use Rattle.cnf_reader.specs.Meanings.{ends_statement}
use Rattle.cnf_reader.specs.Reading.{shape_in}
use Rattle.cnf_reader.specs.Sound.{AsksByName, IsReady, count_items}
use Rattle.cnf_reader.specs.Statements.{take, Takes}
use Rattle.cnf_reader.specs.declared.kept.Kept.{Kept}
use Rattle.cnf_reader.specs.declared.pending.Pending.{Pending}
use Rattle.cnf_reader.proofs.CleanTokens.{token_clean}
use Rattle.cnf_reader.proofs.Going.{is_taken}
use Rattle.cnf_reader.proofs.Readying.{led_allowed, led_asks, led_fewer, led_items, led_on, led_ready}

fewer_by : (tokens : List Token) (fault : Option LexFault) (token : Token) → first_by tokens fault ≡ Ok (Some token) → length tokens ≡ suc (length (drop 1 tokens))
fewer_by [] None token first = absurd cc
fewer_by [] (Some fault) token first = absurd cc
fewer_by (other ∷ tokens) fault token first = refl

-- so many tokens are left that the symbols have room for them
pub few_tokens : (symbols left : ℕ) → symbols + left ≤ 16777216 → left ≤ 16777216
few_tokens symbols left room = omega (arith, room)

-- a mode that ends neither a clause nor an include ends no statement
ends_neither : (state : State) → (state ≡ ClauseClosed → ⊥) → (state ≡ IncludeClosed → ⊥) → ends_statement state ≡ false
ends_neither ClauseClosed clause include = absurd (clause refl)
ends_neither IncludeClosed clause include = absurd (include refl)
ends_neither state clause include = refl

-- a clause that is selected has room, where room was looked for
has_room : (count : ℕ) (full selected : Bool) → full ≡ nat_le 20000 count → (full && selected) ≡ false → selected ≡ true → count < 20000
has_room count true true is none chosen = absurd (true≢false none)
has_room count true false is none chosen = absurd (true≢false (sym chosen))
has_room count false selected is none chosen = grind (arith, nat_tests, is)

-- the token that comes next was taken by the statement, which began at the first of the cursors
pub record Steps (is_full : Bool) (selections : List (Option (List Name))) (bytes : List ℕ) (start before after : Cursor) (p : Pending) (token : Token) (new : Pending) : Type 0 where
  pub led : IsLed is_full selections (count_left bytes start) p (count_left bytes before)
  pub fewer : count_left bytes before ≡ suc (count_left bytes after)
  pub clean : is_clean (shape_in bytes token) ≡ true
  pub takes : take is_full selections p (shape_in bytes token) token.line token.column ≡ Ok new

pub steps : (is_full : Bool) (selections : List (Option (List Name))) (bytes : List ℕ) (start before after : Cursor) (p : Pending) (token : Token) (new : Pending) → IsLed is_full selections (count_left bytes start) p (count_left bytes before)
    → first_of (left_of bytes before) ≡ Ok (Some token) → left_of bytes after ≡ rest_of (left_of bytes before) → IsTokenIn bytes token → Takes (take is_full selections p (shape_in bytes token) token.line token.column) None new
    → Steps is_full selections bytes start before after p token new
steps is_full selections bytes start before after p token new led first rest form takes = record {
  led = led;
  fewer = fewer_by (left_of bytes before).tokens (left_of bytes before).fault token first ∙ ap (λ (l : Lexed). suc (length l.tokens)) (sym rest);
  clean = token_clean bytes token form;
  takes = is_taken _ new takes;
}

module _ (is_full : Bool) (selections : List (Option (List Name))) (bytes : List ℕ) (start before after : Cursor) (p : Pending) (token : Token) (new : Pending) (step : Steps is_full selections bytes start before after p token new) where
  -- the statement goes on
  pub step_on : (p.position.state ≡ ClauseClosed → ⊥) → (p.position.state ≡ IncludeClosed → ⊥) → IsLed is_full selections (count_left bytes start) new (count_left bytes after)
  step_on clause include = led_on is_full selections _ _ (count_left bytes after) step.fewer p step.led (written_in bytes token) new step.clean step.takes (ends_neither p.position.state clause include)

  -- its clause may be kept
  pub step_ready : p.position.state ≡ ClauseClosed → count_left bytes start ≤ 16777216 → IsReady new
  step_ready is few = led_ready is_full selections _ _ (count_left bytes after) step.fewer p step.led (written_in bytes token) new step.clean step.takes is few

  -- there is room for it
  pub step_room : (count : ℕ) → is_full ≡ nat_le 20000 count → p.position.state ≡ ClauseClosed → is_selected selections new.name ≡ true → count < 20000
  step_room count full is chosen = has_room count is_full (is_selected selections new.name) full (led_allowed is_full selections _ _ (count_left bytes after) step.fewer p step.led (written_in bytes token) new step.clean step.takes is) chosen

  -- it has no more items than tokens were taken
  pub step_items : p.position.state ≡ ClauseClosed → count_items new.draft.literals + count_left bytes after ≤ count_left bytes start
  step_items is = led_items is_full selections _ _ (count_left bytes after) step.fewer p step.led (written_in bytes token) new step.clean step.takes is

  -- a token was taken
  pub step_fewer : count_left bytes after < count_left bytes start
  step_fewer = led_fewer is_full selections _ _ (count_left bytes after) step.fewer p step.led (written_in bytes token) new step.clean step.takes

  -- its symbols are paid by its tokens
  pub step_pays : (kept later : Kept) → p.position.state ≡ ClauseClosed → length later.symbols ≤ length kept.symbols + count_items new.draft.literals → Spends kept (count_left bytes start) later (count_left bytes after)
  step_pays kept later is grown = record { symbols = let items = step_items is in omega (arith, items, grown); fewer = step_fewer }

  -- an include brings no symbol, and asks by right names
  pub step_asks : (kept : Kept) → count_left bytes start ≤ 16777216 → Spends kept (count_left bytes start) kept (count_left bytes after) × AsksByName 16777216 new.asked
  step_asks kept few = (record { symbols = let less = step_fewer in omega (arith, less); fewer = step_fewer }, led_asks is_full selections _ _ (count_left bytes after) step.fewer p step.led (written_in bytes token) new step.clean step.takes few)
