-- A tree that closes a branch closes each larger one too, and with more lemmas.
use Rattle.std.proofs.Common.{◌≡◌, ℕ, zero, suc, Bool, true, false, true≢false, ◌||◌, List, [], ◌∷◌, ◌++◌, take, Some, IsTrue, refl, sym, ◌∙◌}
use Rattle.std.specs.List.{list_all}
use Rattle.std.proofs.lemmas.List.Folds.{list_any-append}
use Rattle.mg_word.specs.OrderLaws.{lits_equal}
use Rattle.mg_word.specs.Sets.{same_lit, holds, is_part}
use Rattle.mg_word.specs.Words.{lit_instances, complement_of, numbered}
use Rattle.mg_word.specs.declared.lit.Lit.{Lit}
use Rattle.mg_word.specs.declared.form.Form.{Form}
use Rattle.tree_checker.specs.Trees.{Trees, done, tree, Branch, split_by, conclusions_at}
use Rattle.mg_meaning.specs.Folding.{Pair}
use Rattle.tree_checker.specs.Closing.{IsFine, Close, Closes}
use Rattle.tree_checker.specs.declared.doc.TreeLine.{TreeLine}
use Rattle.tree_checker.specs.declared.doc.TreeLine.TheVariants.{Form as FormLine, Clash, Barred, By}
use Rattle.tree_checker.proofs.Truths.{all_push, holds_passes, part_passes}
use Rattle.mg_word.proofs.Members.{both_true}

-- the second branch holds and bars all that the first does
pub record IsLarger (small large : Branch) : Type 0 where
  pub held : IsTrue (is_part small.held large.held)
  pub barred : IsTrue (is_part small.barred large.barred)

-- branch by branch
abbrev pub AreLarger : List Branch → List Branch → Type 0
AreLarger [] [] = Unit {0}
AreLarger [] (large ∷ larges) = ⊥
AreLarger (small ∷ smalls) [] = ⊥
AreLarger (small ∷ smalls) (large ∷ larges) = IsLarger small large × AreLarger smalls larges

all_weaker : (p q : Lit → Bool) → ((lit : Lit) → p lit ≡ true → q lit ≡ true) → (lits : List Lit) → list_all p lits ≡ true → list_all q lits ≡ true
all_weaker p q gives [] all = refl
all_weaker p q gives (lit ∷ lits) all =
    let both = both_true (p lit) (list_all p lits) all in rw (gives lit both.0, all_weaker p q gives lits both.1) refl

or_left : (a b : Bool) → a ≡ true → (a || b) ≡ true
or_left true b is = refl
or_left false b is = absurd (true≢false (sym is))

or_right : (a b : Bool) → b ≡ true → (a || b) ≡ true
or_right true b is = refl
or_right false b is = is

-- a part stays one where the same literal is added to both
pub part-push : (part whole : List Lit) (lit : Lit) → is_part part whole ≡ true → is_part (part ++ lit ∷ []) (whole ++ lit ∷ []) ≡ true
part-push part whole lit is =
    all_push (holds (whole ++ lit ∷ [])) part lit
    (all_weaker (holds whole) (holds (whole ++ lit ∷ []))
    (λ one there. list_any-append (λ held. same_lit held one) whole (lit ∷ []) ∙ or_left (holds whole one) (same_lit lit one || false) there) part is)
    (list_any-append (λ held. same_lit held lit) whole (lit ∷ [])
    ∙ or_right (holds whole lit) (same_lit lit lit || false) (or_left (same_lit lit lit) false ((lits_equal lit lit).1 refl)))

-- the children's branches are larger where their line's is
pub AreLarger-split : (small large : Branch) (lits : List Lit) → IsLarger small large → AreLarger (split_by small lits) (split_by large lits)
AreLarger-split small large [] larger = tt
AreLarger-split small large (lit ∷ lits) larger = (
  record { held = part-push small.held large.held lit larger.held; barred = larger.barred },
  AreLarger-split (record { held = small.held; barred = small.barred ++ lit ∷ [] }) (record { held = large.held; barred = large.barred ++ lit ∷ [] }) lits
      (record { held = larger.held; barred = part-push small.barred large.barred lit larger.barred }),
)

module _ (forms : List Form) (lemmas more : List Pair) (kept : (number : ℕ) (lemma : Pair) → numbered lemmas number ≡ Some lemma → numbered more number ≡ Some lemma) where
  pub IsFine-larger : (small large : Branch) (line : TreeLine) → IsLarger small large → IsFine forms lemmas small line → IsFine forms more large line
  IsFine-larger small large (FormLine number terms) larger (form, at, count, premises) =
      (form, at, count, part_passes (holds large.held) (lit_instances terms form.premises) small.held larger.held premises)
  IsFine-larger small large (Clash lit) larger (one, other) =
      (holds_passes (holds large.held) small.held lit larger.held one, holds_passes (holds large.held) small.held (complement_of lit) larger.held other)
  IsFine-larger small large (Barred lit) larger (one, other) =
      (holds_passes (holds large.held) small.held lit larger.held one, holds_passes (holds large.barred) small.barred lit larger.barred other)
  IsFine-larger small large (By number) larger (lemma, at, inside, outside) = (
    lemma,
    kept number lemma at,
    part_passes (holds large.held) lemma.inside small.held larger.held inside,
    part_passes (holds large.barred) lemma.outside small.barred larger.barred outside,
  )

  pub Close-larger : (smalls larges : List Branch) (trees : Trees) → AreLarger smalls larges → Close forms lemmas smalls trees → Close forms more larges trees
  Close-larger [] [] done larger closes = tt
  Close-larger [] [] (tree line children rest) larger closes = absurd closes
  Close-larger [] (large ∷ larges) trees larger closes = absurd larger
  Close-larger (small ∷ smalls) [] trees larger closes = absurd larger
  Close-larger (small ∷ smalls) (large ∷ larges) done larger closes = absurd closes
  Close-larger (small ∷ smalls) (large ∷ larges) (tree line children rest) larger closes = (
    IsFine-larger small large line larger.0 closes.0,
    Close-larger (split_by small (conclusions_at forms line)) (split_by large (conclusions_at forms line)) children (AreLarger-split small large (conclusions_at forms line) larger.0) closes.1,
    Close-larger smalls larges rest larger.1 closes.2,
  )

  pub Closes-larger : (small large : Branch) (lines : List TreeLine) → IsLarger small large → Closes forms lemmas small lines → Closes forms more large lines
  Closes-larger small large lines larger (trees, same, closes) = (trees, same, Close-larger (small ∷ []) (large ∷ []) trees (larger, tt) closes)

-- the first so many lemmas keep their numbers among all
pub numbered-take : {X : Type 0} (n : ℕ) (items : List X) (number : ℕ) (item : X) → numbered (take n items) number ≡ Some item → numbered items number ≡ Some item
numbered-take n items zero item at = at
numbered-take zero items (suc i) item at = let bad : ⊥ = cc in absurd bad
numbered-take (suc n) [] (suc i) item at = at
numbered-take (suc n) (first ∷ items) (suc zero) item at = at
numbered-take (suc n) (first ∷ items) (suc (suc i)) item at = numbered-take n items (suc i) item at
