-- An accepted document refutes: no list of atoms makes all its instances true.
use Rattle.std.proofs.Common.{◌≡◌, ℕ, ◌<◌, zero, suc, Bool, true, false, List, [], ◌∷◌, ◌++◌, length, take, Some, slice_get, All, Result, Ok, Err, MatchResult, OnOk, refl, sym, ap, subst, ◌∙◌, arith}
use Rattle.std.specs.List.{list_any, list_all}
use Rattle.std.specs.Option.{option_map_or}
use Rattle.std.proofs.lemmas.List.{take_all}
use Rattle.std.proofs.lemmas.List.Elements.{All-nil, All-cons, All-head, All-tail, All-append}
use Rattle.std.proofs.lemmas.Option.{slice_get_within}
use Rattle.mg_word.specs.Table.{Symbol}
use Rattle.mg_word.specs.Words.{fits, lit_instances, numbered}
use Rattle.mg_word.specs.Forms.{forms_of}
use Rattle.mg_word.specs.Facts.{ProblemData}
use Rattle.mg_word.specs.declared.form.Form.{Form}
use Rattle.mg_meaning.specs.Truth.{Ground, lit_true, clause_true, makes_true}
use Rattle.mg_meaning.specs.Refuting.{IsClauseInstance, Refutes}
use Rattle.tree_checker.specs.Trees.{Trees, done, tree, preorder, Branch, split_by, conclusions_at, empty_branch}
use Rattle.mg_meaning.specs.Folding.{Pair}
use Rattle.tree_checker.specs.Closing.{IsFine, Close, Closes}
use Rattle.term_text.specs.Words.{IsWordOf}
use Rattle.tree_checker.specs.Docs.{LineFits, lemma_of, lemmas_of, branch_of, BlocksClose, IsBlock, IsWellFormed, Accepts, Rejects}
use Rattle.tree_checker.specs.Instances.{line_instances, tree_instances, block_instances, instances_of}
use Rattle.tree_checker.specs.declared.doc.Doc.{Doc}
use Rattle.tree_checker.specs.declared.doc.LemmaBlock.{LemmaBlock}
use Rattle.tree_checker.specs.declared.doc.Reject.{Reject}
use Rattle.tree_checker.specs.declared.doc.TreeLine.{TreeLine}
use Rattle.tree_checker.specs.declared.doc.TreeLine.TheVariants.{Form as FormLine, Clash, Barred, By}
use Rattle.mg_word.proofs.Members.{never_true}
use Rattle.mg_meaning.proofs.Lists.{All-at}
use Rattle.mg_meaning.proofs.FormTruth.{form_of_clause}
use Rattle.tree_checker.proofs.Truths.{all_append, All-front, All-back}
use Rattle.tree_checker.proofs.Soundness.{lit_false, Passes, tree_instances-append, Close-none_passes}

all_fit : (table : List Symbol) (terms : List (List ℕ)) → All (IsWordOf table) terms → list_all (fits table) terms ≡ true
all_fit table [] all = refl
all_fit table (term ∷ terms) all = rw ((All-head (IsWordOf table) term terms all).0, all_fit table terms (All-tail (IsWordOf table) term terms all)) refl

-- a lemma of the first blocks is one of them
lemma_at : (blocks : List LemmaBlock) (n number : ℕ) (lemma : Pair) → numbered (lemmas_of (take n blocks)) number ≡ Some lemma
    → (k : ℕ) × (block : LemmaBlock) × (k < n) × (slice_get blocks k ≡ Some block) × (lemma ≡ lemma_of block)
lemma_at blocks n zero lemma at = let bad : ⊥ = cc in absurd bad
lemma_at [] zero (suc k) lemma at = let bad : ⊥ = cc in absurd bad
lemma_at [] (suc n) (suc k) lemma at = let bad : ⊥ = cc in absurd bad
lemma_at (block ∷ blocks) zero (suc k) lemma at = let bad : ⊥ = cc in absurd bad
lemma_at (block ∷ blocks) (suc n) (suc zero) lemma at = let same : lemma_of block ≡ lemma = cc in (0, block, omega arith, refl, sym same)
lemma_at (block ∷ blocks) (suc n) (suc (suc k)) lemma at =
    let found = lemma_at blocks n (suc k) lemma at in (suc found.0, found.1, omega arith, found.3, found.4)

block_passes : (test : Ground → Bool) (forms : List Form) (blocks : List LemmaBlock) → list_all test (block_instances forms blocks) ≡ true
    → (k : ℕ) (block : LemmaBlock) → slice_get blocks k ≡ Some block → list_all test (tree_instances forms block.tree) ≡ true
block_passes test forms [] all k block at = let bad : ⊥ = cc in absurd bad
block_passes test forms (first ∷ blocks) all zero block at =
    let same : first ≡ block = cc in
    subst (λ b. list_all test (tree_instances forms b.tree) ≡ true) same (all_append test (tree_instances forms first.tree) (block_instances forms blocks) all).0
block_passes test forms (first ∷ blocks) all (suc k) block at =
    block_passes test forms blocks (all_append test (tree_instances forms first.tree) (block_instances forms blocks) all).1 k block at

All-block_instances : (forms : List Form) (P : Ground → Type 0) (blocks : List LemmaBlock) → ((k : ℕ) (block : LemmaBlock) → slice_get blocks k ≡ Some block → All P (tree_instances forms block.tree))
    → All P (block_instances forms blocks)
All-block_instances forms P [] each = All-nil P
All-block_instances forms P (first ∷ blocks) each =
    All-append P (tree_instances forms first.tree) (block_instances forms blocks) (each 0 first refl) (All-block_instances forms P blocks (λ k block at. each (suc k) block at))

module _ (problem : ProblemData) (formed : problem.forms ≡ forms_of problem.clauses) where
  -- where an instance of the form's clause is true and all premises are, some conclusion is
  form_holds : (atoms : List (List ℕ)) (number : ℕ) (terms : List (List ℕ)) (form : Form) → numbered problem.forms number ≡ Some form
      → makes_true problem.clauses atoms (record { clause = form.clause; terms = terms }) ≡ true
      → list_all (lit_true atoms) (lit_instances terms form.premises) ≡ true → list_any (lit_true atoms) (lit_instances terms form.conclusions) ≡ true
  form_holds atoms number terms form at made premises =
      let is = form_of_clause problem.clauses problem.forms formed number form at in
      let holds : clause_true atoms terms is.clause.literals ≡ true =
      ap (λ found. option_map_or (λ clause. clause_true atoms terms clause.literals) found false) (sym is.there) ∙ made in
      is.says atoms terms holds premises

  line_are_instances : (lemmas : List Pair) (branch : Branch) (line : TreeLine) → IsFine problem.forms lemmas branch line → LineFits problem.symbols line
      → All (IsClauseInstance problem) (line_instances problem.forms line)
  line_are_instances lemmas branch (FormLine number terms) (form, at, count, premises) fitting =
      let is = form_of_clause problem.clauses problem.forms formed number form at in
      rw at
      (All-cons (IsClauseInstance problem) (record { clause = form.clause; terms = terms }) []
      (record { clause = is.clause; is = is.there; variables = count ∙ is.variables; terms = all_fit problem.symbols terms fitting })
      (All-nil (IsClauseInstance problem)))
  line_are_instances lemmas branch (Clash lit) fine fitting = All-nil (IsClauseInstance problem)
  line_are_instances lemmas branch (Barred lit) fine fitting = All-nil (IsClauseInstance problem)
  line_are_instances lemmas branch (By number) fine fitting = All-nil (IsClauseInstance problem)

  Close-instances : (lemmas : List Pair) (branches : List Branch) (trees : Trees) → Close problem.forms lemmas branches trees → All (LineFits problem.symbols) (preorder trees)
      → All (IsClauseInstance problem) (tree_instances problem.forms (preorder trees))
  Close-instances lemmas [] done closes fitting = All-nil (IsClauseInstance problem)
  Close-instances lemmas [] (tree line children rest) closes fitting = absurd closes
  Close-instances lemmas (branch ∷ branches) done closes fitting = absurd closes
  Close-instances lemmas (branch ∷ branches) (tree line children rest) closes fitting =
      let others = All-tail (LineFits problem.symbols) line (preorder children ++ preorder rest) fitting in
      let own = line_are_instances lemmas branch line closes.0 (All-head (LineFits problem.symbols) line (preorder children ++ preorder rest) fitting) in
      let below = Close-instances lemmas (split_by branch (conclusions_at problem.forms line)) children closes.1 (All-front (LineFits problem.symbols) (preorder children) (preorder rest) others) in
      let beside = Close-instances lemmas branches rest closes.2 (All-back (LineFits problem.symbols) (preorder children) (preorder rest) others) in
      All-append (IsClauseInstance problem) (line_instances problem.forms line) (tree_instances problem.forms (preorder children ++ preorder rest)) own
      (rw (tree_instances-append problem.forms (preorder children) (preorder rest))
      (All-append (IsClauseInstance problem) (tree_instances problem.forms (preorder children)) (tree_instances problem.forms (preorder rest)) below beside))

  Closes-instances : (lemmas : List Pair) (start : Branch) (lines : List TreeLine) → All (LineFits problem.symbols) lines → Closes problem.forms lemmas start lines
      → All (IsClauseInstance problem) (tree_instances problem.forms lines)
  Closes-instances lemmas start lines fitting (trees, same, closes) = rw same at (Close-instances lemmas (start ∷ []) trees closes (rw same fitting))

  -- a branch that lines close does not pass, where earlier lemmas hold
  Closes-none_passes : (lemmas : List Pair) (atoms : List (List ℕ)) (start : Branch) (lines : List TreeLine)
      → ((number : ℕ) (lemma : Pair) → numbered lemmas number ≡ Some lemma → list_all (lit_true atoms) lemma.inside ≡ true → list_all (lit_false atoms) lemma.outside ≡ true → ⊥)
      → list_all (makes_true problem.clauses atoms) (tree_instances problem.forms lines) ≡ true → Closes problem.forms lemmas start lines → Passes atoms start → ⊥
  Closes-none_passes lemmas atoms start lines earlier all (trees, same, closes) =
      (Close-none_passes atoms (makes_true problem.clauses atoms) problem.forms lemmas (form_holds atoms) earlier (start ∷ []) trees closes (rw same all)).0

  -- no block's branch passes where all instances are true
  blocks_sound : (blocks : List LemmaBlock) → BlocksClose problem.forms blocks (length blocks) → (atoms : List (List ℕ))
      → ((k : ℕ) (block : LemmaBlock) → slice_get blocks k ≡ Some block → list_all (makes_true problem.clauses atoms) (tree_instances problem.forms block.tree) ≡ true)
      → (n k : ℕ) (block : LemmaBlock) → k < n → slice_get blocks k ≡ Some block → Passes atoms (branch_of block) → ⊥
  blocks_sound blocks close atoms all zero k block below at passes = omega arith
  blocks_sound blocks close atoms all (suc n) k block below at passes =
      Closes-none_passes (lemmas_of (take k blocks)) atoms (branch_of block) block.tree
      (λ number lemma lemma_is inside outside.
      let found = lemma_at blocks k number lemma lemma_is in
      blocks_sound blocks close atoms all n found.0 found.1 (omega (arith, found.2)) found.3
      (subst (λ l. list_all (lit_true atoms) l.inside ≡ true) found.4 inside, subst (λ l. list_all (lit_false atoms) l.outside ≡ true) found.4 outside))
      (all k block at) (close k block (slice_get_within blocks k block at) at) passes

  pub Accepts-refutes : (doc : Doc) → IsWellFormed problem doc → Accepts problem doc → Refutes (instances_of problem doc) problem
  Accepts-refutes doc well accepts = record {
    each = All-append (IsClauseInstance problem) (block_instances problem.forms doc.lemmas) (tree_instances problem.forms doc.root)
        (All-block_instances problem.forms (IsClauseInstance problem) doc.lemmas
        (λ k block at.
        let is = All-at (IsBlock problem) doc.lemmas k block well.blocks at in
        Closes-instances (lemmas_of (take k doc.lemmas)) (branch_of block) block.tree is.lines.fitting (accepts.blocks k block (slice_get_within doc.lemmas k block at) at)))
        (Closes-instances (lemmas_of doc.lemmas) empty_branch doc.root well.root.fitting accepts.root);
    contradictory = λ atoms. never_true (list_all (makes_true problem.clauses atoms) (instances_of problem doc)) (λ all.
        let both = all_append (makes_true problem.clauses atoms) (block_instances problem.forms doc.lemmas) (tree_instances problem.forms doc.root) all in
        let in_blocks = block_passes (makes_true problem.clauses atoms) problem.forms doc.lemmas both.0 in
        let whole : take (length doc.lemmas) doc.lemmas ≡ doc.lemmas = take_all (length doc.lemmas) doc.lemmas (omega arith) in
        Closes-none_passes (lemmas_of doc.lemmas) atoms empty_branch doc.root
        (λ number lemma lemma_is inside outside.
        let found = lemma_at doc.lemmas (length doc.lemmas) number lemma (rw whole lemma_is) in
        blocks_sound doc.lemmas accepts.blocks atoms in_blocks (length doc.lemmas) found.0 found.1 found.2 found.3
        (subst (λ l. list_all (lit_true atoms) l.inside ≡ true) found.4 inside, subst (λ l. list_all (lit_false atoms) l.outside ≡ true) found.4 outside))
        both.1 accepts.root (refl, refl));
  }

  pub refuted_at_end : (doc : Doc) (result : Result (Unit {0}) Reject) → IsWellFormed problem doc → MatchResult result (λ _. Accepts problem doc) (Rejects problem doc)
      → OnOk result (Refutes (instances_of problem doc) problem)
  refuted_at_end doc (Ok unit) well accepts = Accepts-refutes doc well accepts
  refuted_at_end doc (Err reject) well rejects = tt
