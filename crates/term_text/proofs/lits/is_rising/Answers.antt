use Rattle.std.proofs.Common.{◌≡◌, ◌<◌, true, List, [], ◌∷◌, length, refl, sym, ◌∙◌, arith}
use Rattle.mg_word.specs.Sets.{is_rising}
use Rattle.mg_word.specs.declared.lit.Lit.{Lit}
use Rattle.term_text.proofs.lits.is_rising.Goals as goal

short_rising : (lits : List Lit) → length lits < 2 → is_rising lits ≡ true
short_rising [] short = refl
short_rising (lit ∷ []) short = refl
short_rising (lit ∷ next ∷ lits) short = absurd (omega arith)

pub returns : goal.returns
returns c = sym (c.loop-rest.invariant ∙ short_rising c.loop-rest.rest.now (omega (arith, c.in_default.len_below)))
