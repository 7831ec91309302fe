-- What is searched, how far, and which lemmas are kept.
use Rattle.std.specs.Prelude.{ℕ, Bool, false, length, nat_eq, nat_lt, nat_le, not, ◌&&◌, ◌+◌}
use Rattle.mg_word.specs.Facts.{ProblemData}
use Rattle.mg_meaning.specs.Folding.{Pair}
use Rattle.branch_lemmas.specs.declared.index.TheConstants.{MOST_LEMMAS, MOST_LITERALS}
use Rattle.tree_board.specs.declared.mode.Limits.{Limits}
use Rattle.tree_board.specs.declared.mode.Mode.{Mode}

pub record Setting : Type 0 where
  pub problem : ProblemData
  pub mode : Mode
  pub limits : Limits
  -- where so many lemmas are kept, whether this lemma of a closed node with that number is kept too
  pub keeps : ℕ → ℕ → Pair → Bool

-- no lemma is kept
abbrev pub never : ℕ → ℕ → Pair → Bool
never kept number lemma = false

-- small lemmas of nodes other than the root are kept, up to a number of them
abbrev pub small : ℕ → ℕ → Pair → Bool
small kept number lemma = not (nat_eq number 0) && (nat_le (length lemma.inside + length lemma.outside) MOST_LITERALS && nat_lt kept MOST_LEMMAS)
