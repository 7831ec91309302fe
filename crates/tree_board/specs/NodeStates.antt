-- How a node of the search tree stands, and tests of that.
use Rattle.std.specs.Prelude.{ℕ, Bool, false, true}
use Rattle.mg_word.specs.declared.form.Inst.{Inst}
use Rattle.case_split.specs.declared.child.Closure.{Closure}

-- how a node stands: a split one knows its instance and the number of its first child
pub data NodeState : Type 0 where
  Open : NodeState
  Split : Inst → ℕ → NodeState
  Rejected : Inst → NodeState
  Settled : ℕ → NodeState
  Shut : Closure → NodeState
  Found : NodeState
  Covered : ℕ → NodeState
  Heavy : Inst → NodeState

abbrev pub is_open : NodeState → Bool
is_open Open = true
is_open (Split inst first) = false
is_open (Rejected inst) = false
is_open (Settled lemma) = false
is_open (Shut closure) = false
is_open Found = false
is_open (Covered by) = false
is_open (Heavy inst) = false

abbrev pub is_split : NodeState → Bool
is_split (Split inst first) = true
is_split Open = false
is_split (Rejected inst) = false
is_split (Settled lemma) = false
is_split (Shut closure) = false
is_split Found = false
is_split (Covered by) = false
is_split (Heavy inst) = false

abbrev pub is_found : NodeState → Bool
is_found Found = true
is_found Open = false
is_found (Split inst first) = false
is_found (Rejected inst) = false
is_found (Settled lemma) = false
is_found (Shut closure) = false
is_found (Covered by) = false
is_found (Heavy inst) = false

abbrev pub is_heavy : NodeState → Bool
is_heavy (Heavy inst) = true
is_heavy Open = false
is_heavy (Split inst first) = false
is_heavy (Rejected inst) = false
is_heavy (Settled lemma) = false
is_heavy (Shut closure) = false
is_heavy Found = false
is_heavy (Covered by) = false

abbrev pub is_shut : NodeState → Bool
is_shut (Shut closure) = true
is_shut Open = false
is_shut (Split inst first) = false
is_shut (Rejected inst) = false
is_shut (Settled lemma) = false
is_shut Found = false
is_shut (Covered by) = false
is_shut (Heavy inst) = false

-- open, found, covered or heavy
abbrev pub is_live : NodeState → Bool
is_live Open = true
is_live Found = true
is_live (Covered by) = true
is_live (Heavy inst) = true
is_live (Split inst first) = false
is_live (Rejected inst) = false
is_live (Settled lemma) = false
is_live (Shut closure) = false
