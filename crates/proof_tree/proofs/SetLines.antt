-- Lines of sets, and the line that begins a block or the root.
use Rattle.std.proofs.Common.{◌≡◌, ◌≢◌, ℕ, suc, Bool, true, false, true≢false, List, [], ◌∷◌, ◌++◌, map, drop, All, Any, MatchBool, MatchResult, Result, Ok, Err, refl, sym, ap, ◌∙◌, subst, codes, arith}
use Rattle.std.specs.List.{list_all}
use Rattle.std.specs.Fmt.{decimal}
use Rattle.std.proofs.lemmas.List.{append_cancel_left}
use Rattle.std.proofs.lemmas.List.Elements.{All-head, All-tail, All-cons, All-nil}
use Rattle.mg_word.specs.Table.{Symbol}
use Rattle.mg_word.specs.Facts.{ProblemData, is_symbol}
use Rattle.mg_word.specs.Sets.{is_rising, set_of}
use Rattle.mg_word.specs.Spelling.{spelled}
use Rattle.mg_word.specs.declared.lit.Lit.{Lit}
use Rattle.mg_word.proofs.RisingLists.{set_exact}
use Rattle.ascii_text.specs.Numbers.{IsValue}
use Rattle.term_text.specs.Brackets.{listed, in_brackets}
use Rattle.term_text.specs.Lits.{RawLit, raw_text, lit_text, IsOwnLit, AreLits, atoms}
use Rattle.term_text.specs.Lists.{NoList, AreLitsRead}
use Rattle.term_text.specs.OwnTerms.{IsOwnTerm, HasUnknown, AllKnown, IsHeavy, IsLight}
use Rattle.term_text.specs.Words.{IsWordOf, AreLitsOf}
use Rattle.tree_checker.specs.declared.doc_fault.DocKind.{DocKind}
use Rattle.tree_checker.specs.declared.doc_fault.DocKind.TheVariants.{Header, Syntax, Block, FormNumber, Unknown, Heavy, Order, Early, Rest}
use Rattle.proof_tree.specs.DocLines.{lemma_line, inside_line, outside_line, root_line}
use Rattle.proof_tree.specs.DocText.{lit_in_line}
use Rattle.proof_tree.specs.Standing.{at_block, at_inside, at_outside}
use Rattle.proof_tree.specs.FirstFaults.{IsSpelled, StandsNowhere, LineFault}
use Rattle.proof_tree.specs.Reading.{IsSetText, IsNoSetText, IsRawSet, SetFault, IsSetOf, IsRefusedSet, IsSetAt}
use Rattle.proof_tree.specs.declared.line_fault.LineFault.{LineFault as Fault}
use Rattle.proof_tree.specs.declared.line_fault.LineFault.TheVariants.{Wrong, NoMemory}
use Rattle.proof_tree.proofs.FineLines.{lits_own}
use Rattle.proof_tree.proofs.LinesApart.{front_of}
use Rattle.proof_tree.proofs.NodeLines.{lit_spelled}

-- a rising list is its own set
pub rising_set : (lits : List Lit) → is_rising lits ≡ true → set_of lits ≡ lits
rising_set lits rising = sym (set_exact lits lits rising (λ lit. refl))

module _ (table : List Symbol) (named : list_all is_symbol table ≡ true) where
  -- literals that are found are words of the table, and have the text that they were found by
  lits_fit : (lits : List Lit) (raws : List RawLit) → AreLits table lits raws → All IsOwnLit raws → All IsLight (atoms raws) → AreLitsOf table lits
  lits_fit [] [] are own light = All-nil (λ lit. IsWordOf table lit.word)
  lits_fit [] (raw ∷ raws) are own light = elim are [ ]
  lits_fit (lit ∷ lits) [] are own light = elim are [ ]
  lits_fit (lit ∷ lits) (raw ∷ raws) are own light =
      All-cons (λ l. IsWordOf table l.word) lit lits (lit_spelled table named (raw_text raw) lit raw (All-head IsOwnLit raw raws own) refl (All-head IsLight raw.atom (atoms raws) light) are.0).fits
      (lits_fit lits raws are.1 (All-tail IsOwnLit raw raws own) (All-tail IsLight raw.atom (atoms raws) light))

  lits_text : (lits : List Lit) (raws : List RawLit) → AreLits table lits raws → All IsOwnLit raws → All IsLight (atoms raws) → map (lit_text (spelled table)) (map lit_in_line lits) ≡ map raw_text raws
  lits_text [] [] are own light = refl
  lits_text [] (raw ∷ raws) are own light = elim are [ ]
  lits_text (lit ∷ lits) [] are own light = elim are [ ]
  lits_text (lit ∷ lits) (raw ∷ raws) are own light =
      let first = (lit_spelled table named (raw_text raw) lit raw (All-head IsOwnLit raw raws own) refl (All-head IsLight raw.atom (atoms raws) light) are.0).spelled_is in
      let rest = lits_text lits raws are.1 (All-tail IsOwnLit raw raws own) (All-tail IsLight raw.atom (atoms raws) light) in
      λ i. first i ∷ rest i

  module _ (word line : List ℕ) where
    pub no_word : ((rest : List ℕ) → line ≡ word ++ rest → ⊥) → IsNoSetText table word line (Wrong Syntax)
    no_word none raws is = none (listed (map raw_text raws)) (sym is.text_is)

    module _ (behind : List ℕ) (first : line ≡ word ++ behind) where
      -- behind the word stands a list
      listed_is : (raws : List RawLit) → IsRawSet word line raws → listed (map raw_text raws) ≡ behind
      listed_is raws is = append_cancel_left word (listed (map raw_text raws)) behind (is.text_is ∙ first)

      pub no_bracket : ((rest : List ℕ) → behind ≡ 91 ∷ [] ++ rest → ⊥) → IsNoSetText table word line (Wrong Syntax)
      no_bracket none raws is = none (in_brackets (map raw_text raws)) (sym (listed_is raws is))

      module _ (items : List ℕ) (second : behind ≡ 91 ∷ [] ++ items) where
        pub no_lits : NoList raw_text IsOwnLit items → IsNoSetText table word line (Wrong Syntax)
        no_lits none raws is = none raws (record { own = is.own; text = ap (drop 1) (listed_is raws is ∙ second) })

        module _ (lits : List Lit) (unknown heavy : Bool) (read : AreLitsRead table items lits unknown heavy) where
          raw_set : IsRawSet word line read.raws
          raw_set = record { own = read.is.is.own; text_is = ap (λ l. word ++ 91 ∷ l) read.is.is.text ∙ (ap (λ l. word ++ l) (sym second) ∙ sym first) }

          known_all : unknown ≡ false → All (AllKnown table) (atoms read.raws)
          known_all is = subst (λ b. MatchBool b (Any (HasUnknown table) (atoms read.raws)) (All (AllKnown table) (atoms read.raws))) is read.verdict.flags.unknown_is

          light_all : unknown ≡ false → heavy ≡ false → All IsLight (atoms read.raws)
          light_all known is = subst (λ b. MatchBool b (Any IsHeavy (atoms read.raws)) (All IsLight (atoms read.raws))) is (read.verdict.flags.heavy_is known)

          set_is : unknown ≡ false → heavy ≡ false → is_rising lits ≡ true → IsSetText table word line lits
          set_is known light rising =
              let are = read.verdict.lits_are known light in
              record {
                is = record { words = lits_fit lits read.raws are read.is.is.own (light_all known light); rising = rising };
                spelled_is = ap (λ l. word ++ listed l) (lits_text lits read.raws are read.is.is.own (light_all known light)) ∙ raw_set.text_is;
              }

          pub set_found : (r : Result (List Lit) Fault) → MatchResult r (IsSetOf lits unknown heavy) (IsRefusedSet lits unknown heavy) → MatchResult r (IsSetText table word line) (IsNoSetText table word line)
          set_found (Ok set) is = subst (IsSetText table word line) (sym is.3) (set_is is.0 is.1 is.2)
          set_found (Err (Wrong Unknown)) is =
              (read.raws, raw_set, subst (λ b. MatchBool b (Any (HasUnknown table) (atoms read.raws)) (All (AllKnown table) (atoms read.raws))) is read.verdict.flags.unknown_is)
          set_found (Err (Wrong Heavy)) is =
              (read.raws, raw_set, known_all is.0, subst (λ b. MatchBool b (Any IsHeavy (atoms read.raws)) (All IsLight (atoms read.raws))) is.1 (read.verdict.flags.heavy_is is.0))
          set_found (Err (Wrong Order)) is = (read.raws, raw_set, known_all is.0, light_all is.0 is.1, (lits, read.verdict.lits_are is.0 is.1, is.2))
          set_found (Err (Wrong Header)) is = absurd is
          set_found (Err (Wrong Syntax)) is = absurd is
          set_found (Err (Wrong Block)) is = absurd is
          set_found (Err (Wrong FormNumber)) is = absurd is
          set_found (Err (Wrong Early)) is = absurd is
          set_found (Err (Wrong Rest)) is = absurd is
          set_found (Err NoMemory) is = tt

own_atoms : (raws : List RawLit) → All IsOwnLit raws → All IsOwnTerm (atoms raws)
own_atoms [] own = All-nil IsOwnTerm
own_atoms (raw ∷ raws) own = All-cons IsOwnTerm raw.atom (atoms raws) (All-head IsOwnLit raw raws own) (own_atoms raws (All-tail IsOwnLit raw raws own))

module _ (problem : ProblemData) (blocks : ℕ) where
  inside_raw : (text : List ℕ) (raws : List RawLit) → IsRawSet (codes "inside ") text raws → IsSpelled text (inside_line raws)
  inside_raw text raws is = record { small = tt; own = own_atoms raws is.own; is = is.text_is }

  inside_nowhere : (text : List ℕ) → ((raws : List RawLit) → IsRawSet (codes "inside ") text raws → ⊥) → StandsNowhere (at_inside blocks) text
  inside_nowhere text none (inside_line raws) is stands = none raws (record { own = lits_own raws is.own; text_is = is.is })
  inside_nowhere text none line is stands = true≢false (sym stands)

  inside_fault : (text : List ℕ) (kind : DocKind) → SetFault problem.symbols (codes "inside ") text kind → LineFault problem (at_inside blocks) text kind
  inside_fault text Syntax none = inside_nowhere text none
  inside_fault text Unknown is = (inside_line is.0, inside_raw text is.0 is.1, refl, (λ none. none, is.2))
  inside_fault text Heavy is = (inside_line is.0, inside_raw text is.0 is.1, refl, (λ none. none, is.2, is.3))
  inside_fault text Order is = (inside_line is.0, inside_raw text is.0 is.1, refl, (is.2, is.3, is.4))
  inside_fault text kind is = absurd is

  pub inside_at : IsSetAt problem (at_inside blocks) (codes "inside ")
  inside_at = record { fault = inside_fault; early = λ same. cc }

  outside_raw : (text : List ℕ) (raws : List RawLit) → IsRawSet (codes "outside ") text raws → IsSpelled text (outside_line raws)
  outside_raw text raws is = record { small = tt; own = own_atoms raws is.own; is = is.text_is }

  outside_nowhere : (text : List ℕ) → ((raws : List RawLit) → IsRawSet (codes "outside ") text raws → ⊥) → StandsNowhere (at_outside blocks) text
  outside_nowhere text none (outside_line raws) is stands = none raws (record { own = lits_own raws is.own; text_is = is.is })
  outside_nowhere text none line is stands = true≢false (sym stands)

  outside_fault : (text : List ℕ) (kind : DocKind) → SetFault problem.symbols (codes "outside ") text kind → LineFault problem (at_outside blocks) text kind
  outside_fault text Syntax none = outside_nowhere text none
  outside_fault text Unknown is = (outside_line is.0, outside_raw text is.0 is.1, refl, (λ none. none, is.2))
  outside_fault text Heavy is = (outside_line is.0, outside_raw text is.0 is.1, refl, (λ none. none, is.2, is.3))
  outside_fault text Order is = (outside_line is.0, outside_raw text is.0 is.1, refl, (is.2, is.3, is.4))
  outside_fault text kind is = absurd is

  pub outside_at : IsSetAt problem (at_outside blocks) (codes "outside ")
  outside_at = record { fault = outside_fault; early = λ same. cc }

-- where a block or the root may begin
pub start_nowhere : (blocks : ℕ) (line : List ℕ) → (line ≡ codes "root" → ⊥) → ((rest : List ℕ) → line ≡ codes "lemma " ++ rest → ⊥) → StandsNowhere (at_block blocks) line
start_nowhere blocks line no_root no_lemma root_line is stands = no_root (sym is.is)
start_nowhere blocks line no_root no_lemma (lemma_line number) is stands = no_lemma (decimal number) (sym is.is)
start_nowhere blocks line no_root no_lemma other is stands = true≢false (sym stands)

pub number_nowhere : (blocks : ℕ) (line digits : List ℕ) → line ≡ codes "lemma " ++ digits → ((number : ℕ) → IsValue digits number → ⊥) → StandsNowhere (at_block blocks) line
number_nowhere blocks line digits same none root_line is stands = omega (arith, ap front_of (is.is ∙ same))
number_nowhere blocks line digits same none (lemma_line number) is stands = none number (record { small = is.small; text = ap (drop 6) (is.is ∙ same) })
number_nowhere blocks line digits same none other is stands = true≢false (sym stands)

-- a block with another number
pub other_block : (problem : ProblemData) (blocks found : ℕ) (line digits : List ℕ) → line ≡ codes "lemma " ++ digits → IsValue digits found → found ≢ suc blocks → LineFault problem (at_block blocks) line Block
other_block problem blocks found line digits same value other =
    (lemma_line found, record { small = value.small; own = All-nil IsOwnTerm; is = ap (λ l. codes "lemma " ++ l) value.text ∙ sym same }, refl, other)
