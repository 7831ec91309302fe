use Rattle.std.proofs.Common.{◌≡◌, ◌≤◌, ◌<◌, arith, length, subst}
use Rattle.tree_board.specs.Keeping.{IsKeeping}
use Rattle.tree_board.specs.FoundSets.{found_sets}
use Rattle.tree_board.specs.Searches.{board_of, setting_of}
use Rattle.tree_board.proofs.Kept.{board_kept, few_cells, nodes_kept}
use Rattle.tree_board.proofs.LeafSets.{found_all, found_differently, found_step}
use Rattle.tree_board.proofs.board.Board.found_sets.Goals as goal

pub overflow_cast-node-end : goal.overflow_cast-node-end
overflow_cast-node-end c = let few = few_cells _ _ _ _ _ _ c.self.invariant in omega (arith, few)

pub push_found-requires : goal.push_found-requires
push_found-requires c =
    let sizes = nodes_kept _ _ _ _ _ _ (subst (λ one. IsKeeping one c.self.inside.cells.items c.self.inside.closures.items c.self.inside.lemmas c.self.inside.lemma_nodes.items c.self.inside.tally) c.self.view_is c.self.invariant) in
    let inside : c.loop-node.node < length (board_of c.args.self.now).nodes = omega (arith, sizes) in
    inside

pub loop-node-preserved : goal.loop-node-preserved
loop-node-preserved c = found_step (board_of c.args.self.now).nodes c.loop-node.node _ _ c.loop-node.invariant c.in_ok-push_found.ensures

pub returns-clause-are : goal.returns-clause-are
returns-clause-are c =
    let sizes = nodes_kept _ _ _ _ _ _ (subst (λ one. IsKeeping one c.self.inside.cells.items c.self.inside.closures.items c.self.inside.lemmas c.self.inside.lemma_nodes.items c.self.inside.tally) c.self.view_is c.self.invariant) in
    let last : length (board_of c.args.self.now).nodes ≤ c.loop-node.node = omega (arith, sizes) in
    found_all (board_of c.args.self.now).nodes c.loop-node.node _ c.loop-node.invariant last

pub returns-clause-differ : goal.returns-clause-differ
returns-clause-differ c =
    let kept = (subst (λ one. IsKeeping one c.self.inside.cells.items c.self.inside.closures.items c.self.inside.lemmas c.self.inside.lemma_nodes.items c.self.inside.tally) c.self.view_is c.self.invariant) in
    let sizes = nodes_kept _ _ _ _ _ _ kept in
    let last : length (board_of c.args.self.now).nodes ≤ c.loop-node.node = omega (arith, sizes) in
    found_differently (setting_of c.args.self.now) (board_of c.args.self.now) (board_kept _ _ _ _ _ _ kept) _ (found_all (board_of c.args.self.now).nodes c.loop-node.node _ c.loop-node.invariant last)
