-- The scans of comments and quoted forms, one byte on.
use Rattle.std.proofs.Common.{◌≡◌, ℕ, ◌+◌, ◌<◌, ◌≤◌, suc, Bool, true, false, cond, not, ◌&&◌, ◌==◌, List, length, drop, get_or, Option, Some, None, refl, ◌∙◌, arith}
use Rattle.std.specs.Option.{option_map}
use Rattle.std.proofs.lemmas.List.{at_drop_more, at_drop_all}
use Rattle.ascii_text.specs.Bytes.{is_line_end, is_printable, begins}
use Rattle.tptp_lexer.specs.Comments.{before_close}
use Rattle.tptp_lexer.specs.Quotes.{before_quote, is_escaped, first_flaw, one_later}
use Rattle.tptp_lexer.specs.declared.piece.Flaw.{Flaw}
use Rattle.tptp_lexer.specs.declared.token.LexKind.TheVariants.{BadByte, BadEscape}
use Rattle.tptp_lexer.proofs.Shifts.{shifted, later, shifted-suc, later-suc}

close_by : (i : ℕ) (t : Bool) (found : Option ℕ) → shifted i (cond t (Some 0) (option_map suc found)) ≡ cond t (Some i) (shifted (i + 1) found)
close_by i true found = let e : i + 0 ≡ i = omega arith in rw e refl
close_by i false found = shifted-suc i found

pub before_close-step : (bytes : List ℕ) (i : ℕ) → i < length bytes → shifted i (before_close (drop i bytes))
    ≡ cond (get_or bytes i 0 == 42 && begins (λ c. c == 47) (drop (i + 1) bytes)) (Some i) (shifted (i + 1) (before_close (drop (i + 1) bytes)))
unfolding before_close
before_close-step bytes i lt = at_drop_more (λ l. shifted i (before_close l)) bytes i 0 lt ∙ close_by i _ (before_close (drop (i + 1) bytes))

pub before_close-end : (bytes : List ℕ) (i : ℕ) → length bytes ≤ i → shifted i (before_close (drop i bytes)) ≡ None
unfolding before_close
before_close-end bytes i le = at_drop_all (λ l. shifted i (before_close l)) bytes i le

quote_by : (i : ℕ) (e t : Bool) (found : Option ℕ) → shifted i (cond e None (cond t (Some 0) (option_map suc found))) ≡ cond e None (cond t (Some i) (shifted (i + 1) found))
quote_by i true t found = refl
quote_by i false t found = close_by i t found

pub before_quote-step : (quote : ℕ) (paired : Bool) (bytes : List ℕ) (i : ℕ) → i < length bytes → shifted i (before_quote quote paired (drop i bytes))
    ≡ cond (is_line_end (get_or bytes i 0)) None (cond (get_or bytes i 0 == quote && not paired) (Some i)
    (shifted (i + 1) (before_quote quote (get_or bytes i 0 == 92 && not paired) (drop (i + 1) bytes))))
unfolding before_quote
before_quote-step quote paired bytes i lt =
    at_drop_more (λ l. shifted i (before_quote quote paired l)) bytes i 0 lt
    ∙ quote_by i (is_line_end (get_or bytes i 0)) (get_or bytes i 0 == quote && not paired) (before_quote quote (get_or bytes i 0 == 92 && not paired) (drop (i + 1) bytes))

pub before_quote-end : (quote : ℕ) (paired : Bool) (bytes : List ℕ) (i : ℕ) → length bytes ≤ i → shifted i (before_quote quote paired (drop i bytes)) ≡ None
unfolding before_quote
before_quote-end quote paired bytes i le = at_drop_all (λ l. shifted i (before_quote quote paired l)) bytes i le

flaw_by : (i : ℕ) (e t : Bool) (found : Option Flaw) → later i (cond e (Some (record { kind = BadByte; before = 0 })) (cond t (Some (record { kind = BadEscape; before = 0 })) (option_map one_later found)))
    ≡ cond e (Some (record { kind = BadByte; before = i })) (cond t (Some (record { kind = BadEscape; before = i })) (later (i + 1) found))
flaw_by i true t found = let e : i + 0 ≡ i = omega arith in rw e refl
flaw_by i false true found = let e : i + 0 ≡ i = omega arith in rw e refl
flaw_by i false false found = later-suc i found

pub first_flaw-step : (quote : ℕ) (paired : Bool) (bytes : List ℕ) (i : ℕ) → i < length bytes → later i (first_flaw quote paired (drop i bytes))
    ≡ cond (not (is_printable (get_or bytes i 0))) (Some (record { kind = BadByte; before = i }))
    (cond (get_or bytes i 0 == 92 && not paired && not (begins (is_escaped quote) (drop (i + 1) bytes))) (Some (record { kind = BadEscape; before = i }))
    (later (i + 1) (first_flaw quote (get_or bytes i 0 == 92 && not paired) (drop (i + 1) bytes))))
unfolding first_flaw
first_flaw-step quote paired bytes i lt =
    at_drop_more (λ l. later i (first_flaw quote paired l)) bytes i 0 lt
    ∙ flaw_by i (not (is_printable (get_or bytes i 0))) (get_or bytes i 0 == 92 && not paired && not (begins (is_escaped quote) (drop (i + 1) bytes)))
    (first_flaw quote (get_or bytes i 0 == 92 && not paired) (drop (i + 1) bytes))

pub first_flaw-end : (quote : ℕ) (paired : Bool) (bytes : List ℕ) (i : ℕ) → length bytes ≤ i → later i (first_flaw quote paired (drop i bytes)) ≡ None
unfolding first_flaw
first_flaw-end quote paired bytes i le = at_drop_all (λ l. later i (first_flaw quote paired l)) bytes i le
