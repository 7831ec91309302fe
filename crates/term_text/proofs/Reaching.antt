-- A step of a term's reading keeps what may follow; where nothing may follow there is no term.
use Rattle.std.proofs.Common.{◌≡◌, ℕ, List, [], ◌∷◌, ◌++◌, refl, ◌∙◌, subst, arith}
use Rattle.mg_word.specs.Table.{Symbol}
use Rattle.term_text.specs.Terms.{IsTermAt, NoTerm, Level, plugged, IsAhead, IsReached}

-- one thing that may follow, with the term that it makes
abbrev pub Made : (List ℕ → List Symbol → List ℕ → Type 0) → List Level → List Symbol → List ℕ → List Symbol → Type 0
Made F levels current tail term = (counts : List ℕ) × (symbols : List Symbol) × F counts symbols tail × (plugged levels counts (current ++ symbols) ≡ term)

-- a step that loses nothing and adds nothing
pub record IsStep (F G : List ℕ → List Symbol → List ℕ → Type 0) (levels : List Level) (current : List Symbol) (levels' : List Level) (current' : List Symbol) : Type 0 where
  pub back : (counts : List ℕ) (symbols : List Symbol) (tail : List ℕ) → G counts symbols tail → Made F levels current tail (plugged levels' counts (current' ++ symbols))
  pub forth : (counts : List ℕ) (symbols : List Symbol) (tail : List ℕ) → F counts symbols tail → Made G levels' current' tail (plugged levels counts (current ++ symbols))

-- what is reached before a step is reached behind it
pub step : {F G : List ℕ → List Symbol → List ℕ → Type 0} (bytes : List ℕ) (levels : List Level) (current : List Symbol) (levels' : List Level) (current' : List Symbol)
    → IsStep F G levels current levels' current' → IsReached F bytes levels current → IsReached G bytes levels' current'
step bytes levels current levels' current' is so = record {
  sound = λ counts symbols tail follows.
      let made = is.back counts symbols tail follows in
      subst (λ term. IsTermAt bytes term tail) made.3 (so.sound made.0 made.1 tail made.2);
  only = λ term tail at.
      let some = so.only term tail at in
      let made = is.forth some.0 some.1 tail some.2 in
      (made.0, made.1, made.2, made.3 ∙ some.3);
}

-- where nothing may follow there is no term
pub stuck : {F : List ℕ → List Symbol → List ℕ → Type 0} (bytes : List ℕ) (levels : List Level) (current : List Symbol)
    → ((counts : List ℕ) (symbols : List Symbol) (tail : List ℕ) → F counts symbols tail → ⊥) → IsReached F bytes levels current → NoTerm bytes
stuck bytes levels current none so term tail at = let some = so.only term tail at in none some.0 some.1 tail some.2

-- at the start of the text an argument has to begin
pub starts_ahead : (bytes : List ℕ) → IsReached (IsAhead [] bytes) bytes [] []
starts_ahead bytes = record { sound = sound; only = only }
  where
    sound : (counts : List ℕ) (symbols : List Symbol) (tail : List ℕ) → IsAhead [] bytes counts symbols tail → IsTermAt bytes symbols tail
    sound [] symbols tail is = record { own = is.own; text = is.text; ends = is.ends }
    sound (more ∷ counts) symbols tail is = absurd (omega (arith, is.same))

    only : (term : List Symbol) (tail : List ℕ) → IsTermAt bytes term tail → (counts : List ℕ) × (symbols : List Symbol) × IsAhead [] bytes counts symbols tail × (plugged [] counts symbols ≡ term)
    only term tail at = ([], term, record { same = refl; own = at.own; ends = at.ends; text = at.text }, refl)
