-- The laws that join the table to the grammar.
use Rattle.cnf_grammar.proofs.Common.{◌≡◌, Bool, true, false, List, [], ◌∷◌, ◌++◌, Option, Some, None, is_some, IsSome, ◌↔◌, refl, sym, ◌∙◌, ap, subst, Position, Shape, spell, IsFile, IsFront, step, run_from, run, start, is_end}
use Rattle.cnf_grammar.specs.Trees.{Statement}
use Rattle.cnf_grammar.specs.Laws.{LeadsToEnd, IsFirstFault, StopsAt}
use Rattle.cnf_grammar.proofs.SpelledFiles.{rest_spelled}
use Rattle.cnf_grammar.proofs.Whole.{file_leads}
use Rattle.cnf_grammar.proofs.Completed.{completed}

-- the tokens that trees spell lead from the start to an end
pub every_file : (file : List Statement) → LeadsToEnd start (spell file)
every_file file = (start, file_leads file, refl)

-- tokens that lead from the start to an end, some trees spell
pub only_files : (tokens : List Shape) → LeadsToEnd start tokens → IsFile tokens
only_files tokens h = rest_spelled (Some start) tokens h.0 h.1 h.2

-- from each position some tokens lead to an end
pub every_position : (p : Position) → (tokens : List Shape) × LeadsToEnd p tokens
every_position p = let c = completed p in (c.0, (start, c.1, refl))

-- a run goes over tokens one after another
pub run-append : (o : Option Position) (before more : List Shape) → run_from o (before ++ more) ≡ run_from (run_from o before) more
run-append None [] [] = refl
run-append None [] (s ∷ more) = refl
run-append None (t ∷ before) [] = refl
run-append None (t ∷ before) (s ∷ more) = refl
run-append (Some p) [] more = refl
run-append (Some p) (s ∷ before) more = run-append (step p s) before more

none_goes_on : (more : List Shape) (p : Position) → run_from None more ≡ Some p → ⊥
none_goes_on more p e = cc

-- a run over a front of tokens that lead somewhere leads somewhere
pub front_runs : (before more : List Shape) (q : Position) → run start (before ++ more) ≡ Some q → (p : Position) × (run start before ≡ Some p)
front_runs before more q e = some_before (run start before) refl (sym (run-append (Some start) before more) ∙ e)
  where
    some_before : (o : Option Position) → run start before ≡ o → run_from (run start before) more ≡ Some q → (p : Position) × (run start before ≡ Some p)
    some_before None same h = absurd (none_goes_on more q (subst (λ x. run_from x more ≡ Some q) same h))
    some_before (Some p) same h = (p, same)

-- the front of a file leads to some position
pub front_is_some : (tokens : List Shape) → IsFront tokens → (p : Position) × (run start tokens ≡ Some p)
front_is_some tokens front =
    let file = every_file front.1.0 in
    front_runs tokens front.0 file.0 (subst (λ u. run start u ≡ Some file.0) front.1.1 file.1)

-- tokens that lead to some position are the front of a file
pub some_is_front : (tokens : List Shape) (p : Position) → run start tokens ≡ Some p → IsFront tokens
some_is_front tokens p e =
    let rest = every_position p in
    (rest.0, only_files (tokens ++ rest.0) (rest.1.0, run-append (Some start) tokens rest.0 ∙ (ap (λ o. run_from o rest.0) e ∙ rest.1.1), rest.1.2))

-- one more token is one more step
pub step-after : (tokens : List Shape) (p : Position) (s : Shape) → run start tokens ≡ Some p → run start (tokens ++ s ∷ []) ≡ run_from (step p s) []
step-after tokens p s e = run-append (Some start) tokens (s ∷ []) ∙ ap (λ o. run_from o (s ∷ [])) e

run-nil : (o : Option Position) → run_from o [] ≡ o
run-nil None = refl
run-nil (Some p) = refl

-- where the table leads, it leads on exactly where some file goes on so
pub goes_on : (tokens : List Shape) (p : Position) (s : Shape) → run start tokens ≡ Some p → (step p s ≡ None) ↔ (IsFront (tokens ++ s ∷ []) → ⊥)
goes_on tokens p s e = (
  λ none front. let q = front_is_some (tokens ++ s ∷ []) front in
      let stops : run start (tokens ++ s ∷ []) ≡ None = step-after tokens p s e ∙ (run-nil (step p s) ∙ none) in cc,
  λ stuck. no_place (step p s) (λ q same. stuck (some_is_front (tokens ++ s ∷ []) q (step-after tokens p s e ∙ (run-nil (step p s) ∙ same)))),
)
  where
    no_place : (o : Option Position) → ((q : Position) → o ≡ Some q → ⊥) → o ≡ None
    no_place None h = refl
    no_place (Some q) h = absurd (h q refl)

-- where tokens lead, a file may end exactly where they are one
pub may_end : (tokens : List Shape) (p : Position) → run start tokens ≡ Some p → (is_end p ≡ true) ↔ IsFile tokens
may_end tokens p e = (
  λ end. only_files tokens (p, e, end),
  λ file. let h = every_file file.0 in
      let there : run start tokens ≡ Some h.0 = subst (λ u. run start u ≡ Some h.0) file.1 h.1 in
      let same : h.0 ≡ p = cc in subst (λ q. is_end q ≡ true) same h.2,
)

-- the same by IsSome
pub is_some_value : (o : Option Position) → IsSome o → (p : Position) × (o ≡ Some p)
is_some_value None h = cc
is_some_value (Some p) h = (p, refl)

-- tokens lead to some position exactly where they are the front of a file
pub front_is : (tokens : List Shape) → IsSome (run start tokens) ↔ IsFront tokens
front_is tokens = (
  λ h. let p = is_some_value (run start tokens) h in some_is_front tokens p.0 p.1,
  λ front. let p = front_is_some tokens front in ap is_some p.1,
)

not_both : (b : Bool) → b ≡ true → b ≡ false → ⊥
not_both b h k = cc

is_false : (b : Bool) → (b ≡ true → ⊥) → b ≡ false
is_false true h = absurd (h refl)
is_false false h = refl

-- the table stops at a token exactly where it is the first that cannot go on
pub stops_at : (tokens : List Shape) (s : Shape) → StopsAt tokens s ↔ IsFirstFault tokens s
stops_at tokens s = (
  λ h. ((front_is tokens).0 h.0, λ front. not_both (is_some (run start (tokens ++ s ∷ []))) ((front_is (tokens ++ s ∷ [])).1 front) h.1),
  λ h. ((front_is tokens).1 h.0, is_false (is_some (run start (tokens ++ s ∷ []))) (λ some. h.1 ((front_is (tokens ++ s ∷ [])).0 some))),
)

-- a run goes on by steps
pub run_step : (tokens : List Shape) (p : Position) (s : Shape) → run start tokens ≡ Some p → run start (tokens ++ s ∷ []) ≡ step p s
run_step tokens p s e = step-after tokens p s e ∙ run-nil (step p s)
