-- Tests that decide satisfaction and minimality, by trying the listed instances and all parts.
use Rattle.std.specs.Prelude.{Bool, true, false, not, ◌&&◌, List, [], ◌∷◌}
use Rattle.std.specs.List.{list_all}
use Rattle.mg_word.specs.Sets.{is_proper_part, is_clash_free}
use Rattle.mg_word.specs.Facts.{ProblemData}
use Rattle.mg_word.specs.declared.lit.Lit.{Lit}
use Rattle.mg_word.specs.declared.form.Inst.{Inst}
use Rattle.mg_meaning.specs.Instances.{are_literals}
use Rattle.mg_meaning.specs.Listing.{violated_in}
use Rattle.mg_meaning.specs.Parts.{parts_of}

-- no instance is in the list
abbrev pub is_empty : List Inst → Bool
is_empty [] = true
is_empty (inst ∷ insts) = false

-- clash free, over the problem's symbols, and no violated instance is listed
abbrev pub is_satisfying : ProblemData → List Lit → Bool
is_satisfying problem set = is_clash_free set && (are_literals problem.symbols set && is_empty (violated_in problem set))

-- no proper part among all parts passes the same test
abbrev pub is_least : ProblemData → List Lit → Bool
is_least problem set = list_all (λ part. not (is_proper_part part set && is_satisfying problem part)) (parts_of set)
