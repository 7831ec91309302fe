-- A statement whose tokens were taken one after another holds a clause that may be kept.
use Rattle.std.proofs.Common.{◌≡◌, ◌≤◌, ◌<◌, ◌+◌, ℕ, suc, Bool, true, false, true≢false, ◌&&◌, List, [], ◌∷◌, ◌++◌, length, Option, Ok, IsTrue, refl, sym, ap, ◌∙◌, subst, arith}
use Rattle.std.proofs.lemmas.List.{length-append, map-append}
use Rattle.std.proofs.lemmas.List.Folds.{list_all-append}
use Rattle.std.specs.List.{list_all, flat_map}
use Rattle.mg_word.specs.declared.clause.Name.{Name}
use Rattle.mg_word.specs.Forms.{is_among}
use Rattle.mg_word.proofs.Members.{both_true}
use Rattle.cnf_grammar.specs.Meaning.{Named, ReadClause, read_clause, read_include, meaning, clause_of}
use Rattle.cnf_grammar.specs.Shapes.{Shape}
use Rattle.cnf_grammar.specs.Soundness.{is_clean, is_whole, literal_variables, literal_suits, IsSound}
use Rattle.cnf_grammar.specs.Spelling.{spell, spell_statement}
use Rattle.cnf_grammar.specs.Trees as trees
use Rattle.cnf_grammar.specs.declared.state.State.{State}
use Rattle.cnf_grammar.specs.declared.state.State.TheVariants.{Statement, ClauseClosed}
use Rattle.cnf_grammar.proofs.Clean.{clause_clean}
use Rattle.cnf_grammar.proofs.Joined.{only_files}
use Rattle.cnf_grammar.proofs.Sound.{clause_sound}
use Rattle.cnf_grammar.proofs.Whole.{file_gathered}
use Rattle.cnf_reader.specs.Faults.{is_selected}
use Rattle.cnf_reader.specs.Led.{IsLed}
use Rattle.cnf_reader.specs.Limits.{IsRoomyPending, IsWithin}
use Rattle.cnf_reader.specs.Meanings.{Written, shapes_of, ends_statement, TakesStatement, HoldsClause, HoldsItsMeaning}
use Rattle.cnf_reader.specs.Sound.{IsReady, IsLimited, AsksByName, count_items}
use Rattle.cnf_reader.specs.Statements.{fresh, take}
use Rattle.cnf_reader.specs.declared.pending.Pending.{Pending}
use Rattle.cnf_reader.proofs.Asking.{fresh_asks, asks_on, asks_within}
use Rattle.cnf_reader.proofs.Fronts.{front_grows, front_ends}
use Rattle.cnf_reader.proofs.Meant.{meant}
use Rattle.cnf_reader.proofs.Within.{fresh_within, within_roomy, stays_within, clause_limited}

-- what is known of the clause of a statement from its tree
record IsClauseOf (p : Pending) : Type 0 where
  whole : IsTrue (list_all (is_whole (length p.draft.variables)) p.draft.literals)
  occurring : (variable : ℕ) → variable < length p.draft.variables → IsTrue (is_among (flat_map literal_variables p.draft.literals) variable)
  suiting : IsTrue (list_all literal_suits p.draft.literals)

clause_same : (a b : ReadClause) → read_clause a ≡ read_clause b → a ≡ b
clause_same a b e = cc

no_clause : (file : List ℕ) (names : Option (List Named)) (c : ReadClause) → read_include file names ≡ read_clause c → ⊥
no_clause file names c e = absurd cc

of_tree : (p : Pending) (t : trees.Statement) (c : ReadClause) → IsTrue (list_all is_clean (spell_statement t)) → meaning t ≡ read_clause c → HoldsClause p c → IsClauseOf p
of_tree p (trees.clause name role formula notes) c clean says holds =
    let is = clause_same (clause_of name role formula notes) c says in
    let sound : IsSound c = subst IsSound is (clause_sound name role formula notes) in
    record {
      whole = rw (holds.literals, holds.variables) sound.whole;
      occurring = rw (holds.literals, holds.variables) sound.occurring;
      suiting = rw (holds.literals) (subst (λ (d : ReadClause). list_all literal_suits d.literals ≡ true) is (clause_clean name role formula notes clean));
    }
of_tree p (trees.include file selection) c clean says holds = absurd (no_clause _ _ c says)

-- the tokens of one statement are clean where its tree's are
tree_clean : (t : trees.Statement) (shapes : List Shape) → spell (t ∷ []) ≡ shapes → list_all is_clean shapes ≡ true → list_all is_clean (spell_statement t) ≡ true
tree_clean t shapes is clean = (both_true (list_all is_clean (spell_statement t)) true (sym (list_all-append is_clean (spell_statement t) []) ∙ ap (list_all is_clean) is ∙ clean)).0

of_meaning : (tokens : List Written) (p : Pending) → HoldsItsMeaning tokens ClauseClosed p → list_all is_clean (shapes_of tokens) ≡ true → IsClauseOf p
of_meaning tokens p (t, is, (c, says, holds)) clean = of_tree p t c (tree_clean t (shapes_of tokens) is clean) says holds

-- one more clean token
clean_more : (tokens : List Written) (t : Written) → list_all is_clean (shapes_of tokens) ≡ true → is_clean t.shape ≡ true → list_all is_clean (shapes_of (tokens ++ t ∷ [])) ≡ true
clean_more tokens t clean first =
    ap (list_all is_clean) (map-append (λ (w : Written). w.shape) tokens (t ∷ [])) ∙ list_all-append is_clean (shapes_of tokens) (t.shape ∷ []) ∙ rw (clean, first) refl

-- no token was taken
pub led_fresh : (is_full : Bool) (selections : List (Option (List Name))) (all : ℕ) → IsLed is_full selections all fresh all
led_fresh is_full selections all = record {
  tokens = [];
  front = refl;
  clean = refl;
  within = fresh_within is_full selections;
  asks = fresh_asks;
  count = omega arith;
}

-- of the tokens of a file, each number that counts them has room for one more
pub led_roomy : (is_full : Bool) (selections : List (Option (List Name))) (all left : ℕ) (p : Pending) → IsLed is_full selections all p left → all ≤ 16777216 → IsRoomyPending p
led_roomy is_full selections all left p led few = let e = led.count in within_roomy is_full selections (length led.tokens) p led.within (omega (arith, e, few))

module _ (is_full : Bool) (selections : List (Option (List Name))) (all before left : ℕ) (fewer : before ≡ suc left) (p : Pending) (led : IsLed is_full selections all p before)
    (t : Written) (next : Pending) (clean : is_clean t.shape ≡ true) (takes : take is_full selections p t.shape t.line t.column ≡ Ok next) where
  grown : length (led.tokens ++ t ∷ []) ≡ suc (length led.tokens)
  grown = let e = length-append led.tokens (t ∷ []) in omega (arith, e)

  asks_next : AsksByName (suc (length led.tokens)) next.asked
  asks_next = asks_on is_full selections p next t.shape t.line t.column (length led.tokens) takes clean led.asks

  -- one more token was taken, which ends no statement
  pub led_on : ends_statement p.position.state ≡ false → IsLed is_full selections all next left
  led_on goes = record {
    tokens = led.tokens ++ t ∷ [];
    front = front_grows is_full selections fresh led.tokens p t next led.front goes takes;
    clean = clean_more led.tokens t led.clean clean;
    within =
        subst (λ n. IsWithin is_full selections n next) (sym grown)
        (stays_within is_full selections p next t.shape t.line t.column (length led.tokens) led.within (λ is. true≢false (sym (ap ends_statement is) ∙ goes)) takes);
    asks = subst (λ n. AsksByName n next.asked) (sym grown) asks_next;
    count = let e = led.count in let g = grown in omega (arith, e, g, fewer);
  }

  module _ (state : State) (is : p.position.state ≡ state) (ends : ends_statement state ≡ true) where
    statement : TakesStatement is_full selections fresh (led.tokens ++ t ∷ []) state next
    statement =
        subst (λ m. TakesStatement is_full selections fresh (led.tokens ++ t ∷ []) m next) is
        (front_ends is_full selections fresh led.tokens p t next led.front (ap ends_statement is ∙ ends) takes)

    means : HoldsItsMeaning (led.tokens ++ t ∷ []) state next
    means = meant is_full selections only_files file_gathered (led.tokens ++ t ∷ []) state next statement

  module _ (is : p.position.state ≡ ClauseClosed) where
    limited : IsLimited (suc (length led.tokens)) next × ((is_full && is_selected selections next.name) ≡ false)
    limited = clause_limited is_full selections p next t.shape t.line t.column (length led.tokens) led.within is takes

    -- the clause may be kept
    pub led_ready : all ≤ 16777216 → IsReady next
    led_ready few =
        let known = of_meaning (led.tokens ++ t ∷ []) next (means ClauseClosed is refl) (clean_more led.tokens t led.clean clean) in
        record {
          taken = suc (length led.tokens);
          few = let e = led.count in omega (arith, e, few, fewer);
          limited = limited.0;
          whole = known.whole;
          occurring = known.occurring;
          suiting = known.suiting;
        }

    -- there is room for it, where it is selected
    pub led_allowed : (is_full && is_selected selections next.name) ≡ false
    led_allowed = limited.1

    -- it has no more items than tokens
    pub led_items : count_items next.draft.literals + left ≤ all
    led_items = let e = led.count in let items = limited.0.items in omega (arith, e, items, fewer)

  -- a token of the statement was taken
  pub led_fewer : left < all
  led_fewer = let e = led.count in omega (arith, e, fewer)

  -- what an include asks for has right names
  pub led_asks : all ≤ 16777216 → AsksByName 16777216 next.asked
  led_asks few = let e = led.count in asks_within (suc (length led.tokens)) 16777216 next.asked (omega (arith, e, few, fewer)) asks_next
