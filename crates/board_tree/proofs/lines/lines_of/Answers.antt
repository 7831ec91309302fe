use Rattle.std.proofs.Common.{◌≡◌, [], arith, ◌∙◌}
use Rattle.board_tree.proofs.Written.{none_long, way_begins, way_node, way_goes, way_ends}
use Rattle.board_tree.proofs.lines.lines_of.Goals as goal

pub nodes-init : goal.nodes-init
nodes-init c = (
  c.requires.refuted,
  way_begins c.args.board.now c.requires.refuted c.args.top c.new-written.result.items c.new-waiting.result.items c.write_in_place.new.written.items c.write_in_place.new.waiting.items
      c.new-written.ensures.items c.new-waiting.ensures.items c.in_ok-write_in_place.ensures,
)

pub write_node-requires-clause-there : goal.write_node-requires-clause-there
write_node-requires-clause-there c =
    way_node c.args.board.now c.nodes.invariant.0 c.args.top c.nodes.written.items c.nodes.waiting.items c.pop.new.self.items c.in-Some.node c.in-Some.ensures.items c.nodes.invariant.1

pub nodes-smaller : goal.nodes-smaller
nodes-smaller c =
    (way_goes c.args.board.now c.nodes.invariant.0 c.args.top c.nodes.written.items c.nodes.waiting.items c.pop.new.self.items c.in-Some.node c.write_node.new.written.items c.write_node.new.waiting.items
    c.in-Some.ensures.items c.nodes.invariant.1 c.in_ok-write_node.ensures).1

pub nodes-preserved : goal.nodes-preserved
nodes-preserved c = (
  c.nodes.invariant.0,
  (way_goes c.args.board.now c.nodes.invariant.0 c.args.top c.nodes.written.items c.nodes.waiting.items c.pop.new.self.items c.in-Some.node c.write_node.new.written.items c.write_node.new.waiting.items
      c.in-Some.ensures.items c.nodes.invariant.1 c.in_ok-write_node.ensures).0,
)

pub returns : goal.returns
returns c =
    let empty : c.nodes.waiting.items ≡ [] = none_long c.nodes.waiting.items (omega (arith, c.in_default.ensures.cases.0, c.nodes.waiting.ok)) in
    c.new.ensures ∙ way_ends c.args.board.now c.nodes.invariant.0 c.args.top c.nodes.written.items c.nodes.waiting.items empty c.nodes.invariant.1
