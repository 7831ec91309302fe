use Rattle.std.proofs.Common.{◌≡◌, sym, ap₂, subst}
use Rattle.tree_checker.specs.Docs.{IsWellFormed, Accepts}
use Rattle.tree_checker.specs.declared.doc.Doc.{Doc}
use Rattle.tree_board.specs.Searches.{board_of}
use Rattle.board_tree.specs.Documents.{doc_of}
use Rattle.board_tree.proofs.Accepting.{closed_is_accepted}
use Rattle.board_tree.proofs.Forming.{closed_is_well_formed}
use Rattle.board_tree.proofs.document.Goals as goal

pub returns-clause-well_formed : goal.returns-clause-well_formed
returns-clause-well_formed c =
    let same : ◌≡◌ {A = Doc} (record { lemmas = c.in_ok-blocks_of.field-0; root = c.in_ok-lines_of.field-0 }) (doc_of (board_of c.args.board.now)) = ap₂ (λ lemmas root. record { lemmas = lemmas; root = root }) c.in_ok-blocks_of.ensures c.in_ok-lines_of.ensures in
    subst (IsWellFormed c.args.board.now.problem) (sym same) (closed_is_well_formed c.args.board.now c.requires)

pub returns-clause-accepted : goal.returns-clause-accepted
returns-clause-accepted c =
    let same : ◌≡◌ {A = Doc} (record { lemmas = c.in_ok-blocks_of.field-0; root = c.in_ok-lines_of.field-0 }) (doc_of (board_of c.args.board.now)) = ap₂ (λ lemmas root. record { lemmas = lemmas; root = root }) c.in_ok-blocks_of.ensures c.in_ok-lines_of.ensures in
    subst (Accepts c.args.board.now.problem) (sym same) (closed_is_accepted c.args.board.now c.requires)
