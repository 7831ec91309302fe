-- The nodes that events settle, and what a list of events has done.
use Rattle.std.specs.Prelude.{ℕ, List, [], ◌+◌, ◌∷◌}
use Rattle.mg_word.specs.declared.form.Inst.{Inst}
use Rattle.tree_board.specs.declared.event.Event.{Event}
use Rattle.tree_board.specs.declared.event.Event.TheVariants.{ByLemma, Covered as CoveredBy, Extend, Heavy as TooHeavy, Reject, Saturated}

-- the node that the event settles
abbrev pub node_of : Event → ℕ
node_of (Extend node inst) = node
node_of (Reject node inst) = node
node_of (ByLemma node lemma) = node
node_of (Saturated node) = node
node_of (CoveredBy node by) = node
node_of (TooHeavy node inst) = node

-- the number of extensions
abbrev pub extends_in : List Event → ℕ
extends_in [] = 0
extends_in (Extend node inst ∷ events) = 1 + extends_in events
extends_in (Reject node inst ∷ events) = extends_in events
extends_in (ByLemma node lemma ∷ events) = extends_in events
extends_in (Saturated node ∷ events) = extends_in events
extends_in (CoveredBy node by ∷ events) = extends_in events
extends_in (TooHeavy node inst ∷ events) = extends_in events

-- the instances of the Extend and Reject events: what lemmas and covering rest on
abbrev pub insts_in : List Event → List Inst
insts_in [] = []
insts_in (Extend node inst ∷ events) = inst ∷ insts_in events
insts_in (Reject node inst ∷ events) = inst ∷ insts_in events
insts_in (ByLemma node lemma ∷ events) = insts_in events
insts_in (Saturated node ∷ events) = insts_in events
insts_in (CoveredBy node by ∷ events) = insts_in events
insts_in (TooHeavy node inst ∷ events) = insts_in events
