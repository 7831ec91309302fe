use Rattle.std.proofs.Common.{◌≡◌, true, [], ◌∷◌, ◌++◌, sym, ap, ◌∙◌}
use Rattle.cnf_reader.specs.Faults.{is_selected}
use Rattle.cnf_reader.specs.Keeping.{with_literals, clause_of}
use Rattle.cnf_reader.proofs.Growing.{literals_count}
use Rattle.cnf_reader.proofs.KeptSound.{kept_sound}
use Rattle.cnf_reader.proofs.keep.keep.Goals as goal

pub returns-clause-sound : goal.returns-clause-sound
returns-clause-sound c =
    let kept = c.args.kept.now in
    let pending = c.args.pending in
    let selected : is_selected c.args.selections.now pending.name ≡ true = sym c.in_ok-have.ensures ∙ c.if-not-branch.false in
    let symbols : c.number_literals.new.symbols ≡ with_literals kept.symbols pending.draft.literals = c.in_ok-literals.ensures.1 ∙ ap (with_literals kept.symbols) c.literals.ensures in
    let clauses : c.push.new.self ≡ kept.clauses ++ clause_of kept.symbols c.args.number pending ∷ [] =
    rw (c.new.ensures, c.in_ok-literals.ensures.0, c.literals.ensures, c.into_variables.ensures) at c.in_ok-push.ensures.ok in
    rw (symbols, clauses) (kept_sound kept c.args.number pending c.requires.sound c.requires.file (c.requires.few selected) c.requires.ready)

pub returns-clause-grown : goal.returns-clause-grown
returns-clause-grown c = rw (c.in_ok-literals.ensures.1, c.literals.ensures) (literals_count c.args.kept.now.symbols c.args.pending.draft.literals)
