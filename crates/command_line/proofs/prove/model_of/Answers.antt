use Rattle.std.proofs.Common.{◌≡◌, Some, sym}
use Rattle.tree_board.specs.Readers.{lits_of}
use Rattle.tree_board.specs.Searches.{board_of}
use Rattle.command_line.proofs.SearchEnds.{satisfied_set}
use Rattle.command_line.proofs.prove.model_of.Goals as goal

pub returns : goal.returns
returns c =
    let here : lits_of (board_of c.args.board.now).nodes c.args.node ≡ Some c.in-Some.lits.items = sym (rw c.in-Some.is at c.in_ok-lits.ensures) in
    satisfied_set c.args.board.now c.requires.ended c.args.node c.in-Some.lits.items c.from_lits.result c.requires.model here c.from_lits.ensures
