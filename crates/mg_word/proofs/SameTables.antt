-- Tables compared entry by entry.
use Rattle.std.proofs.Common.{◌≡◌, ℕ, ◌+◌, ◌<◌, Bool, true, false, not, true≢false, List, [], ◌∷◌, ◌++◌, map, length, get_or, take, Some, slice_get, refl, sym, ap, ◌∙◌}
use Rattle.std.proofs.lemmas.List.{map-append, take_more}
use Rattle.mg_word.specs.Seen.{entry_seen}
use Rattle.mg_word.specs.declared.symbol.Entry.{Entry}
use Rattle.mg_word.specs.contracts.symbol.EntryPartialEq.TheImpl.{eq-value}
use Rattle.mg_word.proofs.Entries.{entry_same, entry_equal}
use Rattle.mg_word.proofs.Sorting.{symbol_at}

apart : (b : Bool) → true ≡ not b → b ≡ false
apart false is = refl
apart true is = cc

alike : (b : Bool) → false ≡ not b → b ≡ true
alike false is = cc
alike true is = refl

-- one pair of entries that differ tells the tables apart
pub tables_differ : (these those : List Entry) (i : ℕ) (this that : Entry) → i < length these → i < length those → this ≡ get_or these i this → that ≡ get_or those i that → true ≡ not (eq-value.it this that) → map entry_seen these ≡ map entry_seen those → ⊥
tables_differ these those i this that inside within here there differ same =
    let left = symbol_at these i this inside here in
    let right = symbol_at those i that within there in
    let symbols : Some (entry_seen this) ≡ Some (entry_seen that) = sym left ∙ ap (λ symbols. slice_get symbols i) same ∙ right in
    let seen : entry_seen this ≡ entry_seen that = cc in
    true≢false (sym (entry_equal this that seen) ∙ apart (eq-value.it this that) differ)

-- one pair more that agrees
pub tables_more : (these those : List Entry) (i : ℕ) (this that : Entry) → i < length these → i < length those → this ≡ get_or these i this → that ≡ get_or those i that → false ≡ not (eq-value.it this that)
    → map entry_seen (take i these) ≡ map entry_seen (take i those) → map entry_seen (take (i + 1) these) ≡ map entry_seen (take (i + 1) those)
tables_more these those i this that inside within here there agree same =
    let seen = entry_same this that (alike (eq-value.it this that) agree) in
    let left : map entry_seen (take (i + 1) these) ≡ map entry_seen (take i these) ++ entry_seen this ∷ [] = rw (take_more these i this inside, ← here) (map-append entry_seen (take i these) (this ∷ [])) in
    let right : map entry_seen (take (i + 1) those) ≡ map entry_seen (take i those) ++ entry_seen that ∷ [] = rw (take_more those i that within, ← there) (map-append entry_seen (take i those) (that ∷ [])) in
    left ∙ ap (λ symbols. symbols ++ entry_seen this ∷ []) same ∙ ap (λ symbol. map entry_seen (take i those) ++ symbol ∷ []) seen ∙ sym right
