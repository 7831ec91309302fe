use Rattle.std.proofs.Common.{◌≡◌, List, take, true}
use Rattle.mg_word.specs.Table.{Symbol}
use Rattle.term_text.specs.Terms.{AreRaws}
use Rattle.term_text.specs.OwnTerms.{AreNumbers, AllKnown}
use Rattle.term_text.proofs.terms.look_up.Given as goal

abbrev pub invariant-loop-raw : goal.invariant-loop-raw
invariant-loop-raw l =
    (term : List Symbol) → AreRaws l.bytes l.raws term → AllKnown l.symbols (take l.raw-index term) × (l.is_light ≡ true → AreNumbers l.symbols l.numbers.items (take l.raw-index term))
