-- The words of a board: literals of nodes, barred literals, and the terms of instances.
use Rattle.std.proofs.Common.{◌≡◌, ℕ, suc, ◌+◌, ◌<◌, ◌≤◌, true, true≢false, nat_eq, List, [], ◌∷◌, ◌++◌, All, length, slice_get, slice_index_or, Some, sym, ap, subst, ◌∙◌, ◌⊎◌, inl, inr, arith}
use Rattle.std.specs.List.{list_all}
use Rattle.std.proofs.lemmas.Bool.{eqb-true, lt-ltb, cases_eq}
use Rattle.std.proofs.lemmas.List.{length-append}
use Rattle.std.proofs.lemmas.List.Elements.{All-nil, All-cons}
use Rattle.mg_word.specs.Facts.{ProblemData, IsProblem}
use Rattle.mg_word.specs.Forms.{is_among, pattern_variables, lits_variables}
use Rattle.mg_word.specs.Sets.{holds, is_part, same_lit, with_lit}
use Rattle.mg_word.specs.Table.{Symbol}
use Rattle.mg_word.specs.Words.{fits, instance_of, lit_instances}
use Rattle.mg_word.specs.declared.form.Inst.{Inst}
use Rattle.mg_word.specs.declared.item.Item.{Item}
use Rattle.mg_word.specs.declared.item.Item.TheVariants.{Sym, Var}
use Rattle.mg_word.specs.declared.lit.Lit.{Lit}
use Rattle.mg_word.specs.declared.lit.PatLit.{PatLit}
use Rattle.mg_word.proofs.Members.{both_true, either_true, or_true, holds_cases, holds_first, holds_later, holds_right}
use Rattle.mg_word.proofs.RisingLists.{holds-with_lit}
use Rattle.mg_meaning.specs.Instances.{IsInstance, are_literals}
use Rattle.mg_meaning.proofs.FormVariables.{among_cases, premise_variables}
use Rattle.term_text.specs.Words.{IsWordOf, most_symbols}
use Rattle.tree_board.specs.Boards.{Board}
use Rattle.tree_board.specs.Facts.{HasChildren, IsBoard, IsPath}
use Rattle.tree_board.specs.Nodes.{Node}
use Rattle.tree_board.specs.Settings.{Setting}
use Rattle.tree_board.proofs.Below.{split_at}
use Rattle.tree_board.proofs.Places.{same_some}

module _ {X : Type 0} (P : X → Type 0) where
  all_first : (x : X) (xs : List X) → All P (x ∷ xs) → P x
  all_first x xs all = all 0 x (omega arith)

  all_rest : (x : X) (xs : List X) → All P (x ∷ xs) → All P xs
  all_rest x xs all = λ k d within. all (suc k) d (omega (arith, within))

-- the word has few enough symbols for a text
abbrev pub IsShort : List ℕ → Type 0
IsShort word = length word ≤ most_symbols

abbrev pub AreShort : List Lit → Type 0
AreShort lits = All (λ (lit : Lit). IsShort lit.word) lits

-- what holds of each literal that is held holds of all
pub all_held : (P : Lit → Type 0) (lits : List Lit) → ((lit : Lit) → holds lits lit ≡ true → P lit) → All P lits
all_held P [] each = All-nil P
all_held P (first ∷ lits) each = All-cons P first lits (each first (holds_first first lits)) (all_held P lits (λ lit there. each lit (holds_later first lits lit there)))

-- a literal that is held is a word of the table, where all are
pub held_word : (table : List Symbol) (lits : List Lit) → are_literals table lits ≡ true → AreShort lits → (lit : Lit) → holds lits lit ≡ true → IsWordOf table lit.word
held_word table [] fitting short lit there = absurd (true≢false (sym there))
held_word table (first ∷ lits) fitting short lit there =
    let parts = both_true (fits table first.word) (are_literals table lits) fitting in
    elim (holds_cases first lits lit there) [
      | inl same ↦ subst (λ (one : Lit). IsWordOf table one.word) same (parts.0, all_first (λ (one : Lit). IsShort one.word) first lits short)
      | inr later ↦ held_word table lits parts.1 (all_rest (λ (one : Lit). IsShort one.word) first lits short) lit later
    ]

-- ---- the terms of an instance

short_part : (part whole : List Lit) → AreShort whole → is_part part whole ≡ true → AreShort part
short_part [] whole short is = All-nil (λ (lit : Lit). IsShort lit.word)
short_part (lit ∷ part) whole short is =
    let parts = both_true (holds whole lit) (is_part part whole) is in
    All-cons (λ (one : Lit). IsShort one.word) lit part (held_short whole short lit parts.0) (short_part part whole short parts.1)
  where
    held_short : (lits : List Lit) → AreShort lits → (one : Lit) → holds lits one ≡ true → IsShort one.word
    held_short [] all one there = absurd (true≢false (sym there))
    held_short (first ∷ lits) all one there = elim (holds_cases first lits one there) [
      | inl same ↦ subst (λ (this : Lit). IsShort this.word) same (all_first (λ (this : Lit). IsShort this.word) first lits all)
      | inr later ↦ held_short lits (all_rest (λ (this : Lit). IsShort this.word) first lits all) one later
    ]

-- the term of a variable is no longer than what the variable stands in
term_within : (terms : List (List ℕ)) (items : List Item) (variable : ℕ) → is_among (pattern_variables items) variable ≡ true → length (slice_index_or terms variable []) ≤ length (instance_of terms items)
term_within terms [] variable there = absurd (true≢false (sym there))
term_within terms (Sym symbol ∷ items) variable there =
    let later = term_within terms items variable there in
    let size = length-append (symbol ∷ []) (instance_of terms items) in
    omega (arith, later, size)
term_within terms (Var other ∷ items) variable there =
    let size = length-append (slice_index_or terms other []) (instance_of terms items) in
    elim (either_true (nat_eq other variable) (is_among (pattern_variables items) variable) there) [
      | inl same ↦ subst (λ one. length (slice_index_or terms one []) ≤ length (slice_index_or terms other [] ++ instance_of terms items)) (eqb-true other variable same) (omega (arith, size))
      | inr later ↦ let rest = term_within terms items variable later in omega (arith, rest, size)
    ]

term_short : (terms : List (List ℕ)) (lits : List PatLit) (variable : ℕ) → AreShort (lit_instances terms lits) → is_among (lits_variables lits) variable ≡ true → IsShort (slice_index_or terms variable [])
term_short terms [] variable short there = absurd (true≢false (sym there))
term_short terms (lit ∷ lits) variable short there =
    elim (among_cases (pattern_variables lit.pattern) (lits_variables lits) variable there) [
      | inl here ↦
          let within = term_within terms lit.pattern variable here in
          let first : IsShort (instance_of terms lit.pattern) = all_first (λ (one : Lit). IsShort one.word) (record { negative = lit.negative; word = instance_of terms lit.pattern }) (lit_instances terms lits) short in
          omega (arith, within, first)
      | inr later ↦ term_short terms lits variable (all_rest (λ (one : Lit). IsShort one.word) (record { negative = lit.negative; word = instance_of terms lit.pattern }) (lit_instances terms lits) short) later
    ]

terms_words : (table : List Symbol) (terms : List (List ℕ)) → list_all (fits table) terms ≡ true → ((k : ℕ) → k < length terms → IsShort (slice_index_or terms k [])) → All (IsWordOf table) terms
terms_words table [] fitting short = All-nil (IsWordOf table)
terms_words table (term ∷ terms) fitting short =
    let parts = both_true (fits table term) (list_all (fits table) terms) fitting in
    All-cons (IsWordOf table) term terms (parts.0, short 0 (omega arith)) (terms_words table terms parts.1 (λ k within. short (suc k) (omega (arith, within))))

-- the terms of an instance are words of the table, where its premises are short
pub subst_words : (problem : ProblemData) → IsProblem problem → (inst : Inst) → IsInstance problem inst → (held : List Lit) → AreShort held → is_part inst.premises held ≡ true → All (IsWordOf problem.symbols) inst.subst
subst_words problem real inst is held short premises =
    let parts = both_true (nat_eq (length inst.subst) is.form.variables) (list_all (fits problem.symbols) inst.subst) is.terms in
    let size = eqb-true (length inst.subst) is.form.variables parts.0 in
    let made : AreShort (lit_instances inst.subst is.form.premises) = subst (λ (one : Inst). AreShort one.premises) is.made (short_part inst.premises held short premises) in
    terms_words problem.symbols inst.subst parts.1 (λ k within.
    term_short inst.subst is.form.premises k made (premise_variables problem real inst.form is.form is.is k ∙ lt-ltb k is.form.variables (omega (arith, within, size))))

-- ---- barred literals

-- some node holds the literal
pub record IsHeldSomewhere (board : Board) (lit : Lit) : Type 0 where
  pub number : ℕ
  pub node : Node
  pub is : slice_get board.nodes number ≡ Some node
  pub held : holds node.lits lit ≡ true

module _ (setting : Setting) (board : Board) (facts : IsBoard setting board) where
  -- what a child bars its parent bars, or an earlier child holds
  sibling_bars : (first : ℕ) (above : List ℕ) (held bars conclusions : List Lit) → HasChildren board.nodes first above held bars conclusions → (number : ℕ) (node : Node) → slice_get board.nodes number ≡ Some node → first ≤ number → number < first + length conclusions
      → (lit : Lit) → holds node.barred lit ≡ true → (holds bars lit ≡ true) ⊎ IsHeldSomewhere board lit
  sibling_bars first above held bars [] children number node at from below lit there = absurd (omega (arith, from, below))
  sibling_bars first above held bars (conclusion ∷ more) (child, children) number node at from below lit there = elim (cases_eq number first) [
    | inl same ↦
        let one : child.node ≡ node = same_some child.node node (sym child.is ∙ ap (slice_get board.nodes) (sym same) ∙ at) in
        inl (subst (λ barred. holds barred lit ≡ true) (ap (λ (n : Node). n.barred) (sym one) ∙ child.barred) there)
    | inr apart ↦ elim (sibling_bars (suc first) above held (with_lit bars conclusion) more children number node at (omega (arith, from, apart)) (omega (arith, below)) lit there) [
      | inr somewhere ↦ inr somewhere
      | inl barred ↦ elim (either_true (same_lit conclusion lit) (holds bars lit) (sym (holds-with_lit bars conclusion lit) ∙ barred)) [
        | inr earlier ↦ inl earlier
        | inl same ↦ inr (record {
          number = first;
          node = child.node;
          is = child.is;
          held = subst (λ lits. holds lits lit ≡ true) (sym child.lits) (holds_right held (conclusion ∷ []) lit (own conclusion lit same));
        })
      ]
    ]
  ]
    where
      own : (one other : Lit) → same_lit one other ≡ true → holds (one ∷ []) other ≡ true
      own one other same = or_true (same_lit one other) (holds [] other) (inl same)

  barred_up : (number : ℕ) (above : List ℕ) → IsPath board.nodes (number ∷ above) → (node : Node) → slice_get board.nodes number ≡ Some node → (lit : Lit) → holds node.barred lit ≡ true → IsHeldSomewhere board lit
  barred_up number [] rooted node at lit there =
      let (root, is, path, lits, barred) = facts.root in
      let same : root ≡ node = same_some root node (sym is ∙ ap (slice_get board.nodes) (sym rooted) ∙ at) in
      absurd (true≢false (sym (subst (λ bars. holds bars lit ≡ true) (ap (λ (n : Node). n.barred) (sym same) ∙ barred) there)))
  barred_up number (parent ∷ above) (child, rooted) node at lit there =
      let split = split_at setting board facts.each parent child.node child.inst child.first child.is child.state in
      elim (sibling_bars child.first child.node.path child.node.lits child.node.barred child.inst.conclusions split.children number node at child.from child.below lit there) [
        | inl earlier ↦ barred_up parent above rooted child.node child.is lit earlier
        | inr somewhere ↦ somewhere
      ]

  -- what a node bars, some node holds
  pub barred_somewhere : (number : ℕ) (node : Node) → slice_get board.nodes number ≡ Some node → (lit : Lit) → holds node.barred lit ≡ true → IsHeldSomewhere board lit
  barred_somewhere number node at lit there =
      let one = facts.each number node at in
      barred_up number one.above (subst (IsPath board.nodes) one.path one.rooted) node at lit there

-- the literals of each node are short
abbrev pub HasShortWords : Board → Type 0
HasShortWords board = (number : ℕ) (node : Node) → slice_get board.nodes number ≡ Some node → AreShort node.lits

module _ (setting : Setting) (board : Board) (facts : IsBoard setting board) (short : HasShortWords board) where
  pub node_word : (number : ℕ) (node : Node) → slice_get board.nodes number ≡ Some node → (lit : Lit) → holds node.lits lit ≡ true → IsWordOf setting.problem.symbols lit.word
  node_word number node at lit there = held_word setting.problem.symbols node.lits (facts.each number node at).fitting (short number node at) lit there

  pub barred_word : (number : ℕ) (node : Node) → slice_get board.nodes number ≡ Some node → (lit : Lit) → holds node.barred lit ≡ true → IsWordOf setting.problem.symbols lit.word
  barred_word number node at lit there =
      let somewhere = barred_somewhere setting board facts number node at lit there in
      node_word somewhere.number somewhere.node somewhere.is lit somewhere.held
