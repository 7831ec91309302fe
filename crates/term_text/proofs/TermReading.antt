-- The reading of a term, step by step: its text with what its buffers hold.
use Rattle.std.proofs.Common.{◌≡◌, ℕ, ◌+◌, ◌≤◌, ◌<◌, true, false, List, [], ◌∷◌, ◌++◌, length, drop, reverse, slice_index_or, slice_set, refl, sym, ap, ◌∙◌, subst, length-append, length-drop, arith}
use Rattle.std.proofs.lemmas.List.{drop-drop}
use Rattle.mg_word.specs.Table.{Symbol, symbol_of}
use Rattle.mg_word.specs.declared.symbol.Kind.{Kind}
use Rattle.mg_word.specs.declared.symbol.Kind.TheVariants.{Word}
use Rattle.term_text.specs.Names.{IsOnlyName, NoName}
use Rattle.term_text.specs.Terms.{ends_term, IsRaw, AreRaws, Level, flat, places, raised, raised_raw, no_raw, IsBehind, IsReached, AtArgument, AfterArgument, NoTerm, IsRawTerm}
use Rattle.term_text.proofs.Reaching.{starts_ahead, step}
use Rattle.term_text.proofs.TermSteps.{more_of, opened, constant_step, open_step, comma_step, close_step}
use Rattle.term_text.proofs.TermEnds.{stuck_within, stuck_empty, stuck_name, term_ends, term_goes_on}
use Rattle.term_text.proofs.RawTerms.{raws_length, raws_push, flat_append, reverse_cons, IsTop, popped}
use Rattle.term_text.specs.declared.terms.Raw.{Raw}

module _ (bytes : List ℕ) (raws : List Raw) (opens opens' : List ℕ) (index : ℕ) (split : opens ≡ opens' ++ index ∷ []) where
  abbrev raised_raws : List Raw
  raised_raws = slice_set raws index (raised_raw (slice_index_or raws index no_raw))

  top_of : (rest : List ℕ) (at : AfterArgument bytes raws opens rest) → IsTop bytes raws opens' index at.levels at.current
  top_of rest at = popped bytes raws opens opens' index at.levels at.current split at.held

  reached_at : (rest : List ℕ) (at : AfterArgument bytes raws opens rest) (top : Level) (below : List Level) → at.levels ≡ top ∷ below → IsReached (IsBehind (top ∷ below) rest) bytes (top ∷ below) at.current
  reached_at rest at top below are = subst (λ l. IsReached (IsBehind l rest) bytes l at.current) are at.reached

  pub close_index : (rest : List ℕ) → AfterArgument bytes raws opens rest → index < length raws
  close_index rest at = (top_of rest at).within

  pub close_empty : (rest : List ℕ) → rest ≡ [] → AfterArgument bytes raws opens rest → NoTerm bytes
  close_empty rest none at =
      let top = top_of rest at in
      stuck_empty bytes top.top top.below at.current (subst (λ l. IsReached (IsBehind (top.top ∷ top.below) l) bytes (top.top ∷ top.below) at.current) none (reached_at rest at top.top top.below top.levels_are))

  pub close_other : (rest : List ℕ) (byte : ℕ) (next : List ℕ) → rest ≡ byte ∷ next → (byte ≡ 44 → ⊥) → (byte ≡ 41 → ⊥) → AfterArgument bytes raws opens rest → NoTerm bytes
  close_other rest byte next is no_comma no_bracket at =
      let top = top_of rest at in
      stuck_within bytes top.top top.below at.current byte next no_comma no_bracket (subst (λ l. IsReached (IsBehind (top.top ∷ top.below) l) bytes (top.top ∷ top.below) at.current) is (reached_at rest at top.top top.below top.levels_are))

  pub close_comma : (rest next : List ℕ) → rest ≡ 44 ∷ next → AfterArgument bytes raws opens rest → AtArgument bytes raised_raws (opens' ++ index ∷ []) next
  close_comma rest next is at =
      let top = top_of rest at in
      let reached = subst (λ l. IsReached (IsBehind (top.top ∷ top.below) l) bytes (top.top ∷ top.below) at.current) is (reached_at rest at top.top top.below top.levels_are) in
      record {
        levels = more_of top.top ∷ top.below;
        current = at.current;
        held = record {
          raws_are = top.raised_are;
          opens_are = ap (λ l. l ++ index ∷ []) top.opens_are ∙ (ap (λ i. reverse (places top.below) ++ i ∷ []) top.index_is ∙ sym (reverse_cons (length (flat top.below top.top.left)) (places top.below)));
        };
        reached = step bytes (top.top ∷ top.below) at.current (more_of top.top ∷ top.below) at.current (comma_step top.top top.below at.current next) reached;
      }

  pub close_bracket : (rest next : List ℕ) → rest ≡ 41 ∷ next → AfterArgument bytes raws opens rest → AfterArgument bytes raised_raws opens' next
  close_bracket rest next is at =
      let top = top_of rest at in
      let reached = subst (λ l. IsReached (IsBehind (top.top ∷ top.below) l) bytes (top.top ∷ top.below) at.current) is (reached_at rest at top.top top.below top.levels_are) in
      record {
        levels = top.below;
        current = top.top.left ++ raised 1 top.top.head ∷ at.current;
        held = record { raws_are = top.raised_are; opens_are = top.opens_are };
        reached = step bytes (top.top ∷ top.below) at.current top.below (top.top.left ++ raised 1 top.top.head ∷ at.current) (close_step top.top top.below at.current next) reached;
      }

no_levels : (levels : List Level) → [] ≡ reverse (places levels) → levels ≡ []
no_levels [] none = refl
no_levels (level ∷ levels) none =
    absurd (omega (arith, ap length (none ∙ reverse_cons (length (flat levels level.left)) (places levels)), length-append (reverse (places levels)) (length (flat levels level.left) ∷ [])))

pub close_all : (bytes : List ℕ) (raws : List Raw) (opens rest : List ℕ) → opens ≡ [] → ends_term rest ≡ true → AfterArgument bytes raws opens rest → IsRawTerm bytes raws rest
close_all bytes raws opens rest none ends at =
    let empty = no_levels at.levels (sym none ∙ at.held.opens_are) in
    record {
      term = at.current;
      is = term_ends bytes at.current rest ends (subst (λ l. IsReached (IsBehind l rest) bytes l at.current) empty at.reached);
      raws_are = subst (λ l. AreRaws bytes raws (flat l at.current)) empty at.held.raws_are;
    }

pub close_wrong : (bytes : List ℕ) (raws : List Raw) (opens rest : List ℕ) → opens ≡ [] → ends_term rest ≡ false → AfterArgument bytes raws opens rest → NoTerm bytes
close_wrong bytes raws opens rest none other at =
    let empty = no_levels at.levels (sym none ∙ at.held.opens_are) in
    term_goes_on bytes at.current rest other (subst (λ l. IsReached (IsBehind l rest) bytes l at.current) empty at.reached)

pub argument_starts : (bytes : List ℕ) (raws : List Raw) (opens : List ℕ) → raws ≡ [] → opens ≡ [] → AtArgument bytes raws opens bytes
argument_starts bytes raws opens no_raws no_opens = record {
  levels = [];
  current = [];
  held = record { raws_are = subst (λ l. AreRaws bytes l []) (sym no_raws) tt; opens_are = no_opens };
  reached = starts_ahead bytes;
}

pub argument_missing : (bytes : List ℕ) (raws : List Raw) (opens rest : List ℕ) → NoName rest → AtArgument bytes raws opens rest → NoTerm bytes
argument_missing bytes raws opens rest missing at = stuck_name bytes at.levels at.current rest missing at.reached

module _ (bytes : List ℕ) (raws : List Raw) (opens : List ℕ) (at : ℕ) (kind : Kind) (name after : List ℕ) (here : IsOnlyName (drop at bytes) kind name after) where
  abbrev new_raw : Raw
  new_raw = record { start = at; arity = 0 }

  raw_is : IsRaw bytes new_raw (symbol_of name 0 kind)
  raw_is = record { rest = after; name = here.is; arity = refl }

  more_raws : (levels : List Level) (current : List Symbol) → AreRaws bytes raws (flat levels current) → AreRaws bytes (raws ++ new_raw ∷ []) (flat levels (current ++ symbol_of name 0 kind ∷ []))
  more_raws levels current are =
      subst (λ l. AreRaws bytes (raws ++ new_raw ∷ []) l) (sym (flat_append levels current (symbol_of name 0 kind ∷ []))) (raws_push bytes raws (flat levels current) new_raw (symbol_of name 0 kind) are raw_is)

  pub constant_read : (kind ≡ Word → (more : List ℕ) → after ≡ 40 ∷ more → ⊥) → AtArgument bytes raws opens (drop at bytes) → AfterArgument bytes (raws ++ new_raw ∷ []) opens after
  constant_read closed so = record {
    levels = so.levels;
    current = so.current ++ symbol_of name 0 kind ∷ [];
    held = record { raws_are = more_raws so.levels so.current so.held.raws_are; opens_are = so.held.opens_are };
    reached = step bytes so.levels so.current so.levels (so.current ++ symbol_of name 0 kind ∷ []) (constant_step so.levels so.current (drop at bytes) after kind name here closed) so.reached;
  }

  pub bracket_read : (inside : List ℕ) → kind ≡ Word → after ≡ 40 ∷ inside → AtArgument bytes raws opens (drop at bytes) → AtArgument bytes (raws ++ new_raw ∷ []) (opens ++ length raws ∷ []) inside
  bracket_read inside word is so =
      let opening = opened so.current name in
      let held = more_raws so.levels so.current so.held.raws_are in
      let only = subst (λ k. IsOnlyName (drop at bytes) k name (40 ∷ inside)) word (subst (λ l. IsOnlyName (drop at bytes) kind name l) is here) in
      record {
        levels = opening ∷ so.levels;
        current = [];
        held = record {
          raws_are = subst (λ k. AreRaws bytes (raws ++ new_raw ∷ []) (flat so.levels (so.current ++ symbol_of name 0 k ∷ []))) word held;
          opens_are = ap (λ l. l ++ length raws ∷ []) so.held.opens_are
              ∙ (ap (λ n. reverse (places so.levels) ++ n ∷ []) (raws_length bytes raws (flat so.levels so.current) so.held.raws_are) ∙ sym (reverse_cons (length (flat so.levels so.current)) (places so.levels)));
        };
        reached = step bytes so.levels so.current (opening ∷ so.levels) [] (open_step so.levels so.current (drop at bytes) inside name only) so.reached;
      }

-- what is behind an opening bracket
pub behind_bracket : (bytes behind inside : List ℕ) (at : ℕ) → drop at bytes ≡ behind → behind ≡ 40 ∷ inside → (drop (at + 1) bytes ≡ inside) × (at + 1 ≤ length bytes)
behind_bracket bytes behind inside at is opens =
    let whole : drop at bytes ≡ 40 ∷ inside = is ∙ opens in
    (sym (drop-drop 1 at bytes) ∙ ap (drop 1) whole, omega (arith, ap length whole, length-drop at bytes))
