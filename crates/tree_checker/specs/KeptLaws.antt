-- Equal literals are equal keys, and are hashed alike.
use Rattle.std.specs.Prelude.{◌≡◌, true}
use Rattle.std.proofs.Common.{ap}
use Rattle.std.specs.Cmp.{IsEquivalence, IsPartialEquivalence, on_equiv, partial_equiv_from_equiv}
use Rattle.std.proofs.lemmas.Cmp.{eq_by_cmp_equiv}
use Rattle.mg_word.specs.OrderLaws.{lit_total, lits_equal}
use Rattle.tree_checker.specs.Kept.{lit_of, same_kept, lit_hash, kept_hash}
use Rattle.tree_checker.specs.declared.kept_lit.KeptLit.{KeptLit}

pub kept_equiv : IsEquivalence same_kept
kept_equiv = on_equiv lit_of (eq_by_cmp_equiv lit_total)

pub kept_laws : IsPartialEquivalence same_kept
kept_laws = partial_equiv_from_equiv kept_equiv

pub kept_alike : (a b : KeptLit) → same_kept a b ≡ true → kept_hash a ≡ kept_hash b
kept_alike a b same = ap lit_hash ((lits_equal (lit_of a) (lit_of b)).0 same)
