-- The literals by which an index is searched.
use Rattle.std.specs.Prelude.{Bool, List, ℕ, ◌++◌}
use Rattle.std.specs.Hash.{bool, u32, slice}
use Rattle.mg_word.specs.Sets.{same_lit}
use Rattle.mg_word.specs.declared.lit.Lit.{Lit}
use Rattle.tree_checker.specs.declared.kept_lit.KeptLit.{KeptLit}
use Rattle.tree_checker.specs.declared.kept_lit.KeptLit.TheVariants.{Own, Lent}

-- the literal, be it the index's own or lent
abbrev pub lit_of : KeptLit → Lit
lit_of (Own lit) = lit
lit_of (Lent lit) = lit.now

-- the two are one literal
abbrev pub same_kept : KeptLit → KeptLit → Bool
same_kept a b = same_lit (lit_of a) (lit_of b)

-- its sign, and then its symbols
abbrev pub lit_hash : Lit → List (List ℕ)
lit_hash lit = bool lit.negative ++ slice u32 lit.word

abbrev pub kept_hash : KeptLit → List (List ℕ)
kept_hash kept = lit_hash (lit_of kept)
