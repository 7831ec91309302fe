use Rattle.std.proofs.Common.{sym, ap, ◌∙◌}
use Rattle.tree_board.specs.Searches.{board_of}
use Rattle.board_tree.specs.Tables.{name_in}
use Rattle.board_tree.proofs.Written.{own_name}
use Rattle.board_tree.proofs.lines.name_at.Goals as goal

pub returns : goal.returns
returns c =
    c.name_in.ensures
    ∙ ap (λ names. name_in names c.in_ok-own_lemma.field-0) c.requires.names
    ∙ own_name (board_of c.args.board.now) c.args.node c.in_ok-own_lemma.field-0 (sym c.own_lemma.ensures ∙ c.in_ok-own_lemma.was)
