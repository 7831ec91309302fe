use Rattle.std.proofs.Common.{◌≡◌, map, take}
use Rattle.cnf_reader.specs.Drafts.{literal_seen}
use Rattle.cnf_reader.specs.Faults.{has_word}
use Rattle.cnf_reader.proofs.draft.ClauseDraft.words.Given as goal

abbrev pub invariant-loop-literal : goal.invariant-loop-literal
invariant-loop-literal l = l.words.items ≡ map has_word (map literal_seen (take l.literal-index l.literal-items))
