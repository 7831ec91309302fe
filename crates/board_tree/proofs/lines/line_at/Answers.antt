use Rattle.std.proofs.Common.{Some, sym, ap, ◌∙◌}
use Rattle.std.specs.Option.{option_copied}
use Rattle.tree_checker.specs.declared.doc.TreeLine.TheVariants.{Form}
use Rattle.board_tree.specs.Tables.{name_in}
use Rattle.board_tree.proofs.Written.{by_instance, by_lemma, unnamed_never, shows_some}
use Rattle.board_tree.proofs.lines.line_at.Goals as goal

pub returns-in-Some : goal.returns-in-Some
returns-in-Some c =
    by_instance c.args.board.now c.requires.refuted c.args.node c.requires.there c.in-Some.inst.now (sym (ap option_copied c.in-Some.is) ∙ c.instance.ensures)
    ∙ ap (λ terms. Some (Form c.in-Some.inst.now.form terms)) (sym c.in_ok-copy.ensures)

pub unreachable-requires : goal.unreachable-requires
unreachable-requires c =
    shows_some c.args.board.now c.requires.refuted c.args.node c.requires.there (sym (ap option_copied c.in_default.is) ∙ c.instance.ensures) (sym (ap option_copied c.in_default-closed_at_once.is) ∙ c.closed_at_once.ensures) (sym c.in_default-settled_by.is ∙ c.settled_by.ensures)

pub unreachable-requires-in_default-name_in : goal.unreachable-requires-in_default-name_in
unreachable-requires-in_default-name_in c =
    unnamed_never c.args.board.now c.requires.refuted c.args.node c.in-Some-settled_by.lemma (sym c.in-Some-settled_by.is ∙ c.settled_by.ensures)
    (sym c.in_default-name_in.is ∙ c.name_in.ensures ∙ ap (λ names. name_in names c.in-Some-settled_by.lemma) c.requires.names)

pub returns : goal.returns
returns c =
    by_lemma c.args.board.now c.requires.refuted c.args.node c.in-Some-settled_by.lemma c.in-Some-name_in.new (sym c.in-Some-settled_by.is ∙ c.settled_by.ensures)
    (sym c.in-Some-name_in.is ∙ c.name_in.ensures ∙ ap (λ names. name_in names c.in-Some-settled_by.lemma) c.requires.names)
