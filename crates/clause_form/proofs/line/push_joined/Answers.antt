use Rattle.std.proofs.Common.{◌≡◌, ◌++◌, length, List, ℕ, map, subst, sym, ap, ◌∙◌, arith, append_assoc, ◌≤◌}
use Rattle.std.proofs.lemmas.List.{take_all}
use Rattle.std.proofs.lemmas.List.Folds.{flat_map-map}
use Rattle.std.specs.List.{flat_map}
use Rattle.mg_word.specs.Spelling.{spelled_pattern_lit}
use Rattle.mg_word.specs.declared.lit.PatLit.{PatLit}
use Rattle.clause_form.specs.Lines.{IsSpelled}
use Rattle.clause_form.proofs.line.push_joined.Goals as goal

pub push_pattern_lit-requires-in-loop-other : goal.push_pattern_lit-requires-in-loop-other
push_pattern_lit-requires-in-loop-other c =
    subst (λ (lit : PatLit). IsSpelled c.args.symbols.now lit) (sym c.other-item.is) (c.requires.others c.loop-other.other-index c.other-item.result c.loop-other-test.true)

pub returns : goal.returns
returns c =
    let past : length c.args.others.now ≤ c.loop-other.other-index = omega arith in
    let spell = spelled_pattern_lit c.args.symbols.now in
    let later : List PatLit → List ℕ = λ lits. flat_map (λ other. c.args.separator.now ++ spell other) lits in
    let all : c.loop-other.into.items ≡ (c.args.into.now.items ++ spell c.args.first.now) ++ later c.args.others.now =
    c.loop-other.invariant ∙ ap (λ lits. (c.args.into.now.items ++ spell c.args.first.now) ++ later lits) (take_all c.loop-other.other-index c.args.others.now past) in
    all ∙ ap (λ r. (c.args.into.now.items ++ spell c.args.first.now) ++ r) (sym (flat_map-map (λ other. c.args.separator.now ++ other) spell c.args.others.now))
    ∙ append_assoc c.args.into.now.items (spell c.args.first.now) (flat_map (λ other. c.args.separator.now ++ other) (map spell c.args.others.now))
