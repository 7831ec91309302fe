-- What a walk to the end, or to a line that breaks a rule, says of the lines.
use Rattle.std.proofs.Common.{◌≡◌, ℕ, ◌+◌, ◌<◌, List, [], ◌∷◌, ◌++◌, length, take, drop, get_or, Some, slice_get, IsTrue, refl, sym, ap, subst, ◌∙◌, arith}
use Rattle.std.proofs.lemmas.List.{append-nil, take_all, take-append-drop, take_more, drop_more}
use Rattle.std.proofs.lemmas.Option.{slice_get_within, slice_get_read}
use Rattle.mg_word.specs.Words.{lit_instances}
use Rattle.mg_word.specs.Sets.{is_part}
use Rattle.mg_word.specs.declared.form.Form.{Form}
use Rattle.tree_checker.specs.declared.doc.TreeLine.{TreeLine}
use Rattle.tree_checker.specs.declared.doc.TreeLine.TheVariants.{Form as FormLine, Clash, Barred, By}
use Rattle.tree_checker.specs.declared.doc.Why.{Why}
use Rattle.tree_checker.specs.declared.doc.Why.TheVariants.{Premise, NoClash, NotBarred, LemmaNumber, LemmaInside, LemmaOutside, Substitution}
use Rattle.tree_checker.specs.Trees.{Trees, preorder, Branch, AreTrees, IsTree, branches_at, split_by, conclusions_at}
use Rattle.mg_meaning.specs.Folding.{Pair}
use Rattle.tree_checker.specs.Closing.{IsFine, Breaks, Closes, FirstBreak}
use Rattle.tree_checker.specs.declared.line.LineFault.{LineFault}
use Rattle.tree_checker.specs.declared.line.LineFault.TheVariants.{Broken, NoMemory}
use Rattle.tree_checker.specs.Docs.{RejectsAt}
use Rattle.tree_checker.specs.Faults.{Faults, rejected}
use Rattle.tree_checker.specs.Walks.{next_of, after_next}
use Rattle.tree_checker.proofs.Lines.{Reached, Reached-push, Reached-rest, Reached-closed, Reached-branch, Reached-fine, Close-reached, AreTrees-closed}
use Rattle.tree_checker.proofs.Shapes.{some_left, none_left, preorder_unique}

module _ (forms : List Form) (lemmas : List Pair) where
  -- a line that is fine breaks no rule
  pub fine_not_broken : (branch : Branch) (line : TreeLine) (why : Why) → IsFine forms lemmas branch line → Breaks forms lemmas branch line why → ⊥
  fine_not_broken branch (FormLine number terms) Substitution fine breaks =
      let same : fine.0 ≡ breaks.0 = cc (fine.1, breaks.1) in
      breaks.2 (subst (λ form. length terms ≡ form.variables) same fine.2)
  fine_not_broken branch (FormLine number terms) Premise fine breaks =
      let same : fine.0 ≡ breaks.0 = cc (fine.1, breaks.1) in
      breaks.3 (subst (λ form. IsTrue (is_part (lit_instances terms form.premises) branch.held)) same fine.3)
  fine_not_broken branch (FormLine number terms) why fine breaks = breaks
  fine_not_broken branch (Clash lit) NoClash fine breaks = breaks fine
  fine_not_broken branch (Clash lit) why fine breaks = breaks
  fine_not_broken branch (Barred lit) NotBarred fine breaks = breaks fine
  fine_not_broken branch (Barred lit) why fine breaks = breaks
  fine_not_broken branch (By number) LemmaNumber fine breaks = let bad : ⊥ = cc (fine.1, breaks) in bad
  fine_not_broken branch (By number) LemmaInside fine breaks =
      let same : fine.0 ≡ breaks.0 = cc (fine.1, breaks.1) in
      breaks.2 (subst (λ lemma. IsTrue (is_part lemma.inside branch.held)) same fine.2)
  fine_not_broken branch (By number) LemmaOutside fine breaks =
      let same : fine.0 ≡ breaks.0 = cc (fine.1, breaks.1) in
      breaks.3 (subst (λ lemma. IsTrue (is_part lemma.outside branch.barred)) same fine.3)
  fine_not_broken branch (By number) why fine breaks = breaks

  pub reached_all : (start : Branch) (lines : List TreeLine) → Reached forms lemmas (start ∷ []) lines [] → Closes forms lemmas start lines
  reached_all start lines reached =
      let closed = Reached-closed forms lemmas (start ∷ []) lines reached in (closed.trees, closed.same, closed.closes)

  pub reached_broken : (start : Branch) (trees : Trees) (lines : List TreeLine) (i : ℕ) (branch : Branch) (left : List Branch) (line : TreeLine) (why : Why)
      → AreTrees forms 1 trees → preorder trees ≡ lines → Reached forms lemmas (start ∷ []) (take i lines) (branch ∷ left)
      → slice_get lines i ≡ Some line → Breaks forms lemmas branch line why → FirstBreak forms lemmas start lines i why
  reached_broken start trees lines i branch left line why shape same reached line_is breaks =
      let walked : Reached forms lemmas (start ∷ []) (take i (preorder trees)) (branch ∷ left) = rw same reached in
      record {
        trees = trees;
        same = same;
        shape = shape;
        earlier = λ k b l below branch_at line_at. Reached-fine forms lemmas (start ∷ []) trees i (branch ∷ left) shape walked k b l below branch_at (rw same line_at);
        branch = branch;
        line = line;
        branch_is = Reached-branch forms lemmas (start ∷ []) trees i branch left shape walked;
        line_is = line_is;
        breaks = breaks;
      }

  -- lines that have a first broken one do not close
  pub broken_not_closed : (start : Branch) (lines : List TreeLine) (i : ℕ) (why : Why) → FirstBreak forms lemmas start lines i why → Closes forms lemmas start lines → ⊥
  broken_not_closed start lines i why broken (trees, same, closes) =
      let shape = AreTrees-closed forms lemmas (start ∷ []) trees closes in
      let ends : preorder broken.trees ++ [] ≡ preorder trees ++ [] = ap (λ l. l ++ []) (broken.same ∙ sym same) in
      let one = (preorder_unique forms 1 broken.trees trees [] [] broken.shape shape ends).0 in
      let walked : Reached forms lemmas (start ∷ []) (preorder trees) [] = rw (append-nil (preorder trees)) at (Close-reached forms lemmas (start ∷ []) [] trees [] [] closes refl) in
      let whole : take (length (preorder trees)) (preorder trees) ≡ preorder trees = take_all (length (preorder trees)) (preorder trees) (omega arith) in
      let inside : i < length (preorder trees) = rw same (slice_get_within lines i broken.line broken.line_is) in
      let branch_is : slice_get (branches_at forms (start ∷ []) trees) i ≡ Some broken.branch =
      subst (λ t. slice_get (branches_at forms (start ∷ []) t) i ≡ Some broken.branch) one broken.branch_is in
      fine_not_broken broken.branch broken.line why
      (Reached-fine forms lemmas (start ∷ []) trees (length (preorder trees)) [] shape (rw whole walked) i broken.branch broken.line inside branch_is (rw same broken.line_is))
      broken.breaks

  -- where a line is left, so is a branch
  pub open_at : (start : Branch) (lines : List TreeLine) (i : ℕ) (left : List Branch) (line : TreeLine) → IsTree forms lines → i < length lines
      → Reached forms lemmas (start ∷ []) (take i lines) left → left ≡ [] → ⊥
  open_at start lines i left line (trees, same, shape) inside reached =
      let parts : preorder trees ≡ take i lines ++ drop i lines = same ∙ sym (take-append-drop i lines) in
      let rest = Reached-rest forms lemmas (start ∷ []) (take i lines) left trees (drop i lines) shape parts reached in
      some_left forms left (get_or lines i line) (drop (i + 1) lines) (rw (drop_more lines i line inside) at rest)

  -- after the last line, no branch is
  pub closed_at_end : (start : Branch) (lines : List TreeLine) (left : List Branch) → IsTree forms lines → Reached forms lemmas (start ∷ []) lines left → Closes forms lemmas start lines
  closed_at_end start lines left (trees, same, shape) reached =
      let rest = Reached-rest forms lemmas (start ∷ []) lines left trees [] shape (same ∙ sym (append-nil lines)) reached in
      reached_all start lines (rw (none_left forms left rest) at reached)

  pub next_and_after : (left : List Branch) → (left ≡ [] → ⊥) → left ≡ next_of left ∷ after_next left
  next_and_after [] some = absurd (some refl)
  next_and_after (branch ∷ left) some = refl

  -- one more line
  pub reached_more : (start : Branch) (lines : List TreeLine) (i : ℕ) (left : List Branch) (line : TreeLine) → i < length lines → line ≡ get_or lines i line → (left ≡ [] → ⊥)
      → Reached forms lemmas (start ∷ []) (take i lines) left → IsFine forms lemmas (next_of left) line
      → Reached forms lemmas (start ∷ []) (take (i + 1) lines) (split_by (next_of left) (conclusions_at forms line) ++ after_next left)
  reached_more start lines i left line inside is some reached fine =
      let more : take (i + 1) lines ≡ take i lines ++ line ∷ [] = take_more lines i line inside ∙ ap (λ l. take i lines ++ l ∷ []) (sym is) in
      rw more (Reached-push forms lemmas (start ∷ []) (take i lines) (next_of left) (after_next left) line (subst (Reached forms lemmas (start ∷ []) (take i lines)) (next_and_after left some) reached) fine)

  pub broken_at : (start : Branch) (lines : List TreeLine) (i : ℕ) (left : List Branch) (line : TreeLine) (why : Why) → IsTree forms lines → i < length lines → line ≡ get_or lines i line
      → (left ≡ [] → ⊥) → Reached forms lemmas (start ∷ []) (take i lines) left → Breaks forms lemmas (next_of left) line why → FirstBreak forms lemmas start lines i why
  broken_at start lines i left line why (trees, same, shape) inside is some reached breaks =
      reached_broken start trees lines i (next_of left) (after_next left) line why shape same
      (subst (Reached forms lemmas (start ∷ []) (take i lines)) (next_and_after left some) reached)
      (slice_get_read lines (length lines) i line refl inside is) breaks

  pub rejects_at : (start : Branch) (lines : List TreeLine) (first i : ℕ) (left : List Branch) (line : TreeLine) (fault : LineFault) → IsTree forms lines → i < length lines → line ≡ get_or lines i line
      → (left ≡ [] → ⊥) → Reached forms lemmas (start ∷ []) (take i lines) left → Faults forms lemmas (next_of left) line fault → RejectsAt forms lemmas start lines first (rejected (first + i) fault)
  rejects_at start lines first i left line (Broken why) shape inside is some reached breaks =
      (i, refl, broken_at start lines i left line why shape inside is some reached breaks)
  rejects_at start lines first i left line NoMemory shape inside is some reached breaks = tt
