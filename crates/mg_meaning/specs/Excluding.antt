-- What no set passes (nogoods), what ground instances alone exclude, and what they cover.
use Rattle.std.specs.Prelude.{◌≡◌, Bool, false, not, ◌&&◌, List, IsTrue}
use Rattle.std.specs.List.{list_any, list_all}
use Rattle.mg_word.specs.Sets.{is_part, meets, is_clash_free}
use Rattle.mg_word.specs.Facts.{ProblemData}
use Rattle.mg_word.specs.declared.lit.Lit.{Lit}
use Rattle.mg_word.specs.declared.form.Inst.{Inst}
use Rattle.mg_meaning.specs.Satisfaction.{Satisfies}
use Rattle.mg_meaning.specs.Violation.{is_violated}

-- the set holds all of the literals, and nothing of what is barred
abbrev pub passes : List Lit → List Lit → List Lit → Bool
passes set literals barred = is_part literals set && not (meets barred set)

-- the set holds a conclusion of each of these instances whose premises it holds
abbrev pub obeys : List Inst → List Lit → Bool
obeys insts set = list_all (λ inst. not (is_violated set inst)) insts

-- no clash-free set, of whatever literals, that obeys the instances holds all of the inside and nothing of the outside
abbrev pub ExcludesBy : List Inst → List Lit → List Lit → Type 0
ExcludesBy insts inside outside = (set : List Lit) → IsTrue (is_clash_free set) → IsTrue (obeys insts set) → passes set inside outside ≡ false

-- no set that satisfies the problem holds all of the inside and nothing of the outside
abbrev pub Excludes : ProblemData → List Lit → List Lit → Type 0
Excludes problem inside outside = (set : List Lit) → Satisfies set problem → passes set inside outside ≡ false

-- each clash-free set, of whatever literals, that obeys the instances includes one of the sets
abbrev pub Covers : List Inst → List (List Lit) → Type 0
Covers insts sets = (set : List Lit) → IsTrue (is_clash_free set) → IsTrue (obeys insts set) → IsTrue (list_any (λ listed. is_part listed set) sets)
