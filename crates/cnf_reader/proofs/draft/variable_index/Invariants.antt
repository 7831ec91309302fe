use Rattle.std.proofs.Common.{◌≡◌, ◌+◌, drop}
use Rattle.cnf_grammar.specs.Meaning.{index_of}
use Rattle.cnf_reader.proofs.draft.variable_index.Given as goal

abbrev pub invariant-loop-index : goal.invariant-loop-index
invariant-loop-index l = index_of l.variables l.text ≡ l.index + index_of (drop l.index l.variables) l.text
