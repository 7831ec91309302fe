-- What the check of one line may answer.
use Rattle.std.specs.Prelude.{ℕ, List}
use Rattle.mg_word.specs.declared.form.Form.{Form}
use Rattle.tree_checker.specs.Trees.{Branch}
use Rattle.mg_meaning.specs.Folding.{Pair}
use Rattle.tree_checker.specs.Closing.{Breaks}
use Rattle.tree_checker.specs.declared.doc.TreeLine.{TreeLine}
use Rattle.tree_checker.specs.declared.doc.Reject.{Reject}
use Rattle.tree_checker.specs.declared.doc.Reject.TheVariants.{Line, NoMemory as OutOfMemory}
use Rattle.tree_checker.specs.declared.line.LineFault.{LineFault}
use Rattle.tree_checker.specs.declared.line.LineFault.TheVariants.{Broken, NoMemory}

-- the line breaks that rule first
abbrev pub Faults : List Form → List Pair → Branch → TreeLine → LineFault → Type 0
Faults forms lemmas branch line (Broken why) = Breaks forms lemmas branch line why
Faults forms lemmas branch line NoMemory = Unit {0}

-- the answer for the line with this number
abbrev pub rejected : ℕ → LineFault → Reject
rejected line (Broken why) = Line line why
rejected line NoMemory = OutOfMemory
