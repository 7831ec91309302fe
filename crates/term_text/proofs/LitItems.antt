-- Literals at the front of a text: a sign, and the term behind it.
use Rattle.std.proofs.Common.{◌≡◌, ℕ, ◌+◌, Bool, true, false, true≢false, List, [], ◌∷◌, ◌++◌, map, length, refl, sym, ap, ◌∙◌, append_assoc, append-nil, arith}
use Rattle.mg_word.specs.Table.{Symbol}
use Rattle.mg_word.specs.Facts.{is_symbol}
use Rattle.mg_word.specs.Spelling.{spelled_sign, spelled_symbols, spelled_name, spelled_within, symbol_piece, behind, open_behind}
use Rattle.mg_word.proofs.Members.{both_true}
use Rattle.mg_word.proofs.SpelledNames.{no_sign_first}
use Rattle.term_text.specs.Fronts.{begins_with}
use Rattle.term_text.specs.Lits.{RawLit, raw_text, IsOwnLit}
use Rattle.term_text.specs.OwnTerms.{are_own_terms, IsOwnTerm}
use Rattle.term_text.specs.Terms.{IsTermAt, IsOnlyTerm, NoTerm}
use Rattle.term_text.specs.Lists.{IsItemAt, IsOnlyItem, NoItem, IsOnlyList, NoLit}
use Rattle.term_text.proofs.Apart.{no_term_at_end}
use Rattle.term_text.proofs.Listing.{empty_list}
use Rattle.term_text.proofs.Texts.{tails}

-- no term begins with `~`
pub unsigned : (term : List Symbol) (more further : List ℕ) → IsOwnTerm term → spelled_symbols term ++ more ≡ 126 ∷ further → ⊥
unsigned [] more further own same = true≢false (sym own)
unsigned (symbol ∷ term) more further own same =
    let after = behind symbol.arity [] ++ spelled_within (open_behind symbol.arity []) (map symbol_piece term) in
    no_sign_first symbol.kind symbol.name symbol.arity (after ++ more) further (both_true (is_symbol symbol) (are_own_terms (symbol.arity + 0) term) own).0
    (sym (append_assoc (spelled_name symbol.kind symbol.name) after more) ∙ same)

-- the sign of a text tells where its atom begins
module _ (negative : Bool) (atom bytes : List ℕ) (split : spelled_sign negative ++ atom ≡ bytes) (positive : negative ≡ false → begins_with (126 ∷ []) bytes ≡ false) where
  -- a literal of the text has this sign, and its atom is at the front of the rest
  sign_is : (sign : Bool) (term : List Symbol) (more : List ℕ) → IsOwnTerm term → spelled_sign sign ++ (spelled_symbols term ++ more) ≡ bytes → (sign ≡ negative) × (spelled_symbols term ++ more ≡ atom)
  sign_is sign term more own same = by sign negative split positive same
    where
      by : (s n : Bool) → spelled_sign n ++ atom ≡ bytes → (n ≡ false → begins_with (126 ∷ []) bytes ≡ false) → spelled_sign s ++ (spelled_symbols term ++ more) ≡ bytes → (s ≡ n) × (spelled_symbols term ++ more ≡ atom)
      by true true one none other = (refl, tails 126 126 (spelled_symbols term ++ more) atom (other ∙ sym one))
      by false false one none other = (refl, other ∙ sym one)
      by true false one none other = absurd (true≢false (ap (begins_with (126 ∷ [])) other ∙ none refl))
      by false true one none other = absurd (unsigned term more atom own (other ∙ sym one))

  -- a literal at the front of the text has a term at the front of the rest
  atom_at : (lit : RawLit) (more : List ℕ) → IsItemAt raw_text IsOwnLit bytes lit more → (lit.negative ≡ negative) × IsTermAt atom lit.atom more
  atom_at lit more at =
      let is = sign_is lit.negative lit.atom more at.own (sym (append_assoc (spelled_sign lit.negative) (spelled_symbols lit.atom) more) ∙ at.text) in
      (is.0, record { own = at.own; text = is.1; ends = at.ends })

  pub no_lit_item : NoTerm atom → NoItem raw_text IsOwnLit bytes
  no_lit_item none lit more at = none lit.atom more (atom_at lit more at).1

  pub lit_item : (term : List Symbol) (rest : List ℕ) → IsOnlyTerm atom term rest → IsOnlyItem raw_text IsOwnLit bytes (record { negative = negative; atom = term }) rest
  lit_item term rest is = record {
    is = record { own = is.is.own; text = append_assoc (spelled_sign negative) (spelled_symbols term) rest ∙ (ap (λ l. spelled_sign negative ++ l) is.is.text ∙ split); ends = is.is.ends };
    only = λ lit more at.
        let here = atom_at lit more at in
        let same = is.only lit.atom more here.1 in
        ((λ i. record { negative = here.0 i; atom = same.0 i }), same.1);
  }

  -- where no term is all of the rest, the text is no literal
  pub no_lit : NoTerm atom → NoLit bytes
  no_lit none raw own same = no_lit_item none raw [] (record { own = own; text = append-nil (raw_text raw) ∙ same; ends = refl })

  pub no_whole_lit : (term : List Symbol) (rest : List ℕ) → IsOnlyTerm atom term rest → (rest ≡ [] → ⊥) → NoLit bytes
  no_whole_lit term rest is some raw own same = some (sym ((lit_item term rest is).only raw [] (record { own = own; text = append-nil (raw_text raw) ∙ same; ends = refl })).1)

  pub whole_lit : (term : List Symbol) (rest : List ℕ) → IsOnlyTerm atom term rest → length rest ≡ 0 → raw_text (record { negative = negative; atom = term }) ≡ bytes
  whole_lit term [] is none = sym (append-nil (raw_text (record { negative = negative; atom = term }))) ∙ (lit_item term [] is).is.text
  whole_lit term (byte ∷ rest) is none = absurd (omega (arith, none))

pub no_lit_end : (rest : List ℕ) → NoItem raw_text IsOwnLit (93 ∷ rest)
no_lit_end rest = no_lit_item false (93 ∷ rest) (93 ∷ rest) refl (λ is. refl) (no_term_at_end rest)

pub no_lits : (bytes : List ℕ) → bytes ≡ 93 ∷ [] → IsOnlyList raw_text IsOwnLit bytes []
no_lits bytes is = empty_list raw_text IsOwnLit bytes (no_lit_end []) is
