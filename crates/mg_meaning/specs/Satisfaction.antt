-- Which sets of literals satisfy a problem: CMGTP's reading of negated atoms as constraints.
use Rattle.std.specs.Prelude.{List, IsTrue}
use Rattle.mg_word.specs.Sets.{is_part, meets, is_clash_free}
use Rattle.mg_word.specs.Facts.{ProblemData}
use Rattle.mg_word.specs.declared.lit.Lit.{Lit}
use Rattle.mg_word.specs.declared.form.Inst.{Inst}
use Rattle.mg_meaning.specs.Instances.{are_literals, IsInstance}

-- the set obeys each instance of each form: a negated premise holds where the negated literal is in the set, and never by absence
pub record Satisfies (set : List Lit) (problem : ProblemData) : Type 0 where
  -- no literal stands in it beside its complement
  pub consistent : IsTrue (is_clash_free set)
  -- its literals are those of the problem
  pub fitting : IsTrue (are_literals problem.symbols set)
  -- where it holds all premises of an instance, it holds a conclusion
  pub obeying : (inst : Inst) → IsInstance problem inst → IsTrue (is_part inst.premises set) → IsTrue (meets inst.conclusions set)
