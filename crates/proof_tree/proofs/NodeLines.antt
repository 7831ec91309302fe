-- Lines of trees, by what stands behind their first word.
use Rattle.std.proofs.Common.{◌≡◌, ℕ, zero, suc, Bool, true, false, true≢false, List, [], ◌∷◌, ◌++◌, map, length, drop, slice_get, Option, Some, None, IsSome, All, Any, MatchBool, MatchResult, Result, Ok, Err, refl, sym, ap, ◌∙◌, subst, inl, inr, codes, arith}
use Rattle.std.specs.List.{list_all}
use Rattle.std.specs.Fmt.{decimal}
use Rattle.std.proofs.lemmas.Option.{slice_get_within, slice_get_cases}
use Rattle.std.proofs.lemmas.List.Elements.{All-head, All-cons, All-nil}
use Rattle.std.proofs.lemmas.List.Quantifiers.{Any-push}
use Rattle.mg_word.specs.Table.{Symbol}
use Rattle.mg_word.specs.Words.{numbered}
use Rattle.mg_word.specs.Facts.{ProblemData, is_symbol}
use Rattle.mg_word.specs.Spelling.{spelled, spelled_symbols, spelled_sign}
use Rattle.mg_word.specs.declared.form.Form.{Form}
use Rattle.mg_word.specs.declared.lit.Lit.{Lit}
use Rattle.ascii_text.specs.Numbers.{IsValue}
use Rattle.term_text.specs.Brackets.{listed, in_brackets}
use Rattle.term_text.specs.Lits.{RawLit, raw_text, lit_text, IsOwnLit, IsLit}
use Rattle.term_text.specs.Lists.{NoList, IsListRead}
use Rattle.term_text.specs.OwnTerms.{IsOwnTerm, HasUnknown, AllKnown, IsHeavy, IsLight}
use Rattle.term_text.proofs.Apart.{numbers_apart}
use Rattle.term_text.proofs.Texts.{tails}
use Rattle.term_text.proofs.SymbolWords.{map_map, terms_of_words, words_fit, symbols_of_numbers, numbers_fit, numbers_length}
use Rattle.tree_checker.specs.declared.doc.TreeLine.{TreeLine}
use Rattle.tree_checker.specs.declared.doc.TreeLine.TheVariants.{Form as FormLine, Clash, Barred, By}
use Rattle.tree_checker.specs.declared.doc_fault.DocKind.TheVariants.{Header, Syntax, Block, FormNumber, Unknown, Heavy, Order, Early, Rest}
use Rattle.proof_tree.specs.DocLines.{form_line, clash_line, barred_line, by_line}
use Rattle.proof_tree.specs.Standing.{in_root}
use Rattle.proof_tree.specs.FirstFaults.{IsSpelled, StandsNowhere}
use Rattle.proof_tree.specs.Reading.{IsNode, IsNoNode, IsSplitSo, IsNumbered, IsRefused, IsLitText, IsNoLitText}
use Rattle.proof_tree.specs.declared.line_fault.LineFault.{LineFault as Fault}
use Rattle.proof_tree.specs.declared.line_fault.LineFault.TheVariants.{Wrong, NoMemory}
use Rattle.proof_tree.proofs.LinesApart.{front_of}

-- a text that begins with no word of a tree's lines is none of them
pub no_word : (text : List ℕ) → ((rest : List ℕ) → text ≡ codes "form " ++ rest → ⊥) → ((rest : List ℕ) → text ≡ codes "by " ++ rest → ⊥) → ((rest : List ℕ) → text ≡ codes "clash " ++ rest → ⊥) → ((rest : List ℕ) → text ≡ codes "barred " ++ rest → ⊥)
    → StandsNowhere (in_root 1) text
no_word text form by clash barred (form_line number terms) is stands = form (decimal number ++ 32 ∷ listed (map spelled_symbols terms)) (sym is.is)
no_word text form by clash barred (by_line number) is stands = by (decimal number) (sym is.is)
no_word text form by clash barred (clash_line lit) is stands = clash (lit_text spelled_symbols lit) (sym is.is)
no_word text form by clash barred (barred_line lit) is stands = barred (lit_text spelled_symbols lit) (sym is.is)
no_word text form by clash barred line is stands = true≢false (sym stands)

-- behind a first word the line is of that kind
form_nowhere : (rest : List ℕ) → ((number : ℕ) (terms : List (List Symbol)) → IsSpelled (codes "form " ++ rest) (form_line number terms) → ⊥) → StandsNowhere (in_root 1) (codes "form " ++ rest)
form_nowhere rest none (form_line number terms) is stands = none number terms is
form_nowhere rest none (by_line number) is stands = omega (arith, ap front_of is.is)
form_nowhere rest none (clash_line lit) is stands = omega (arith, ap front_of is.is)
form_nowhere rest none (barred_line lit) is stands = omega (arith, ap front_of is.is)
form_nowhere rest none line is stands = true≢false (sym stands)

by_nowhere : (rest : List ℕ) → ((number : ℕ) → IsSpelled (codes "by " ++ rest) (by_line number) → ⊥) → StandsNowhere (in_root 1) (codes "by " ++ rest)
by_nowhere rest none (by_line number) is stands = none number is
by_nowhere rest none (form_line number terms) is stands = omega (arith, ap front_of is.is)
by_nowhere rest none (clash_line lit) is stands = omega (arith, ap front_of is.is)
by_nowhere rest none (barred_line lit) is stands = omega (arith, ap front_of is.is)
by_nowhere rest none line is stands = true≢false (sym stands)

clash_nowhere : (rest : List ℕ) → ((lit : RawLit) → IsSpelled (codes "clash " ++ rest) (clash_line lit) → ⊥) → StandsNowhere (in_root 1) (codes "clash " ++ rest)
clash_nowhere rest none (clash_line lit) is stands = none lit is
clash_nowhere rest none (form_line number terms) is stands = omega (arith, ap front_of is.is)
clash_nowhere rest none (by_line number) is stands = omega (arith, ap front_of is.is)
clash_nowhere rest none (barred_line lit) is stands = omega (arith, ap front_of is.is)
clash_nowhere rest none line is stands = true≢false (sym stands)

barred_nowhere : (rest : List ℕ) → ((lit : RawLit) → IsSpelled (codes "barred " ++ rest) (barred_line lit) → ⊥) → StandsNowhere (in_root 1) (codes "barred " ++ rest)
barred_nowhere rest none (barred_line lit) is stands = none lit is
barred_nowhere rest none (form_line number terms) is stands = omega (arith, ap front_of is.is)
barred_nowhere rest none (by_line number) is stands = omega (arith, ap front_of is.is)
barred_nowhere rest none (clash_line lit) is stands = omega (arith, ap front_of is.is)
barred_nowhere rest none line is stands = true≢false (sym stands)

-- a form has the number where it is one of so many
numbered_some : (forms : List Form) (number : ℕ) → IsNumbered (length forms) number → IsSome (numbered forms number)
numbered_some forms zero is = absurd (omega (arith, is.0))
numbered_some forms (suc index) is = elim (slice_get_cases forms index).1 [ inl found ↦ some_is (slice_get forms index) found.0 found.2 | inr past ↦ absurd (omega (arith, past.0, is.1)) ]
  where
    some_is : (o : Option Form) (x : Form) → o ≡ Some x → IsSome o
    some_is (Some y) x is = refl
    some_is None x is = cc

numbered_none : (forms : List Form) (number : ℕ) → (IsNumbered (length forms) number → ⊥) → numbered forms number ≡ None
numbered_none forms zero not = refl
numbered_none forms (suc index) not = elim (slice_get_cases forms index).1 [ inl found ↦ absurd (not (omega arith, omega (arith, slice_get_within forms index found.0 found.2))) | inr past ↦ past.1 ]

none_some : (o : Option Form) → o ≡ None → IsSome o → ⊥
none_some None is some = true≢false (sym some)
none_some (Some x) is some = cc

module _ (problem : ProblemData) (named : list_all is_symbol problem.symbols ≡ true) (text : List ℕ) where
  -- no number and no list stand behind `form`
  pub no_parts : ((number : ℕ) (list : List ℕ) → IsSplitSo text number list → ⊥) → IsNoNode problem (codes "form " ++ text) (Wrong Syntax)
  no_parts none = form_nowhere text (λ number terms is. none number (in_brackets (map spelled_symbols terms)) (record { small = is.small; text_is = ap (drop 5) is.is }))

  module _ (number : ℕ) (list : List ℕ) (split : IsSplitSo text number list) where
    pub no_terms : NoList spelled_symbols IsOwnTerm list → IsNoNode problem (codes "form " ++ text) (Wrong Syntax)
    no_terms none = form_nowhere text by
      where
        by : (n : ℕ) (terms : List (List Symbol)) → IsSpelled (codes "form " ++ text) (form_line n terms) → ⊥
        by n terms is =
            let same = numbers_apart n number (32 ∷ listed (map spelled_symbols terms)) (32 ∷ 91 ∷ list) is.small split.small refl refl (ap (drop 5) is.is ∙ sym split.text_is) in
            none terms (record { own = is.own; text = tails 91 91 (in_brackets (map spelled_symbols terms)) list (tails 32 32 _ _ same.1) })

    module _ (words : List (List ℕ)) (unknown heavy : Bool) (read : IsListRead problem.symbols list words unknown heavy) where
      raw_form : IsSpelled (codes "form " ++ text) (form_line number read.terms)
      raw_form = record { small = split.small; own = read.is.is.own; is = ap (λ l. codes "form " ++ (decimal number ++ 32 ∷ 91 ∷ l)) read.is.is.text ∙ ap (λ l. codes "form " ++ l) split.text_is }

      form_is : IsNumbered (length problem.forms) number → unknown ≡ false → heavy ≡ false → IsNode problem (codes "form " ++ text) (FormLine number words)
      form_is number_is known light =
          let are = read.verdict.words_are known light in
          let lights = subst (λ b. MatchBool b (Any IsHeavy read.terms) (All IsLight read.terms)) light (read.verdict.flags.heavy_is known) in
          record {
            fits = words_fit problem.symbols named words read.terms are read.is.is.own lights;
            known = numbered_some problem.forms number number_is;
            spelled_is = ap (λ l. codes "form " ++ (decimal number ++ 32 ∷ listed l)) (sym (map_map problem.symbols words) ∙ ap (map spelled_symbols) (terms_of_words problem.symbols named words read.terms are)) ∙ raw_form.is;
          }

      pub form_found : (r : Result TreeLine Fault) → MatchResult r (λ line. IsNumbered (length problem.forms) number × (unknown ≡ false) × (heavy ≡ false) × (line ≡ FormLine number words)) (IsRefused (length problem.forms) number unknown heavy)
          → MatchResult r (IsNode problem (codes "form " ++ text)) (IsNoNode problem (codes "form " ++ text))
      form_found (Ok line) is = subst (IsNode problem (codes "form " ++ text)) (sym is.3) (form_is is.0 is.1 is.2)
      form_found (Err (Wrong FormNumber)) is = (form_line number read.terms, raw_form, refl, numbered_none problem.forms number is)
      form_found (Err (Wrong Unknown)) is =
          let some = subst (λ b. MatchBool b (Any (HasUnknown problem.symbols) read.terms) (All (AllKnown problem.symbols) read.terms)) is.1 read.verdict.flags.unknown_is in
          (form_line number read.terms, raw_form, refl, (λ none. none_some (numbered problem.forms number) none (numbered_some problem.forms number is.0), some))
      form_found (Err (Wrong Heavy)) is =
          let all = subst (λ b. MatchBool b (Any (HasUnknown problem.symbols) read.terms) (All (AllKnown problem.symbols) read.terms)) is.1 read.verdict.flags.unknown_is in
          let some = subst (λ b. MatchBool b (Any IsHeavy read.terms) (All IsLight read.terms)) is.2 (read.verdict.flags.heavy_is is.1) in
          (form_line number read.terms, raw_form, refl, (λ none. none_some (numbered problem.forms number) none (numbered_some problem.forms number is.0), all, some))
      form_found (Err (Wrong Header)) is = absurd is
      form_found (Err (Wrong Syntax)) is = absurd is
      form_found (Err (Wrong Block)) is = absurd is
      form_found (Err (Wrong Order)) is = absurd is
      form_found (Err (Wrong Early)) is = absurd is
      form_found (Err (Wrong Rest)) is = absurd is
      form_found (Err NoMemory) is = absurd is

-- the literal that is spelled so
pub lit_spelled : (table : List Symbol) (named : list_all is_symbol table ≡ true) (text : List ℕ) (lit : Lit) (raw : RawLit) → IsOwnLit raw → raw_text raw ≡ text → IsLight raw.atom → IsLit table lit raw → IsLitText table text lit
lit_spelled table named text lit raw own same light is = record {
  fits = (numbers_fit table named 1 lit.word raw.atom is.1 own, omega (arith, numbers_length table named lit.word raw.atom is.1, light));
  spelled_is = ap (λ s. spelled_sign s ++ spelled table lit.word) is.0 ∙ (ap (λ t. spelled_sign raw.negative ++ spelled_symbols t) (symbols_of_numbers table named lit.word raw.atom is.1) ∙ same);
}

one_own : (lit : RawLit) → IsOwnLit lit → All IsOwnTerm (lit.atom ∷ [])
one_own lit own = All-cons IsOwnTerm lit.atom [] own (All-nil IsOwnTerm)

one_some : (P : List Symbol → Type 0) (term : List Symbol) → P term → Any P (term ∷ [])
one_some P term is = Any-push P [] term is

module _ (problem : ProblemData) (text : List ℕ) where
  clash_raw : (raw : RawLit) → IsOwnLit raw → raw_text raw ≡ text → IsSpelled (codes "clash " ++ text) (clash_line raw)
  clash_raw raw own same = record { small = tt; own = one_own raw own; is = ap (λ l. codes "clash " ++ l) same }

  barred_raw : (raw : RawLit) → IsOwnLit raw → raw_text raw ≡ text → IsSpelled (codes "barred " ++ text) (barred_line raw)
  barred_raw raw own same = record { small = tt; own = one_own raw own; is = ap (λ l. codes "barred " ++ l) same }

  pub clash_is : (lit : Lit) → IsLitText problem.symbols text lit → IsNode problem (codes "clash " ++ text) (Clash lit)
  clash_is lit is = record { fits = is.fits; known = tt; spelled_is = ap (λ l. codes "clash " ++ l) is.spelled_is }

  pub barred_is : (lit : Lit) → IsLitText problem.symbols text lit → IsNode problem (codes "barred " ++ text) (Barred lit)
  barred_is lit is = record { fits = is.fits; known = tt; spelled_is = ap (λ l. codes "barred " ++ l) is.spelled_is }

  pub clash_fault : (fault : Fault) → IsNoLitText problem.symbols text fault → IsNoNode problem (codes "clash " ++ text) fault
  clash_fault (Wrong Syntax) none = clash_nowhere text (λ lit is. none lit (All-head IsOwnTerm lit.atom [] is.own) (ap (drop 6) is.is))
  clash_fault (Wrong Unknown) is = (clash_line is.0, clash_raw is.0 is.1 is.2, refl, (λ none. none, one_some (HasUnknown problem.symbols) is.0.atom is.3))
  clash_fault (Wrong Heavy) is = (clash_line is.0, clash_raw is.0 is.1 is.2, refl, (λ none. none, All-cons (AllKnown problem.symbols) is.0.atom [] is.3 (All-nil (AllKnown problem.symbols)), one_some IsHeavy is.0.atom is.4))
  clash_fault (Wrong Header) is = absurd is
  clash_fault (Wrong FormNumber) is = absurd is
  clash_fault (Wrong Block) is = absurd is
  clash_fault (Wrong Order) is = absurd is
  clash_fault (Wrong Early) is = absurd is
  clash_fault (Wrong Rest) is = absurd is
  clash_fault NoMemory is = tt

  pub barred_fault : (fault : Fault) → IsNoLitText problem.symbols text fault → IsNoNode problem (codes "barred " ++ text) fault
  barred_fault (Wrong Syntax) none = barred_nowhere text (λ lit is. none lit (All-head IsOwnTerm lit.atom [] is.own) (ap (drop 7) is.is))
  barred_fault (Wrong Unknown) is = (barred_line is.0, barred_raw is.0 is.1 is.2, refl, (λ none. none, one_some (HasUnknown problem.symbols) is.0.atom is.3))
  barred_fault (Wrong Heavy) is = (barred_line is.0, barred_raw is.0 is.1 is.2, refl, (λ none. none, All-cons (AllKnown problem.symbols) is.0.atom [] is.3 (All-nil (AllKnown problem.symbols)), one_some IsHeavy is.0.atom is.4))
  barred_fault (Wrong Header) is = absurd is
  barred_fault (Wrong FormNumber) is = absurd is
  barred_fault (Wrong Block) is = absurd is
  barred_fault (Wrong Order) is = absurd is
  barred_fault (Wrong Early) is = absurd is
  barred_fault (Wrong Rest) is = absurd is
  barred_fault NoMemory is = tt

  pub by_is : (number : ℕ) → IsValue text number → IsNode problem (codes "by " ++ text) (By number)
  by_is number is = record { fits = is.small; known = tt; spelled_is = ap (λ l. codes "by " ++ l) is.text }

  pub by_fault : ((number : ℕ) → IsValue text number → ⊥) → IsNoNode problem (codes "by " ++ text) (Wrong Syntax)
  by_fault none = by_nowhere text (λ number is. none number (record { small = is.small; text = ap (drop 3) is.is }))
