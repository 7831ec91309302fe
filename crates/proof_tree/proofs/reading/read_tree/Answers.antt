use Rattle.std.proofs.Common.{◌≡◌, ◌+◌, ◌-◌, ◌∷◌, [], refl, ap, length, length-append, arith}
use Rattle.proof_tree.specs.Bare.{bare}
use Rattle.proof_tree.proofs.FaultsFrom.{tree_goes_on, tree_early, tree_wrong, tree_ends}
use Rattle.proof_tree.proofs.reading.read_tree.Goals as goal

pub returns-in-Err-clause-read : goal.returns-in-Err-clause-read
returns-in-Err-clause-read c =
    λ places at.
    tree_early c.args.problem.now places at (bare c.args.bytes.now) (bare c.loop-open.rest.now) c.loop-open.lines.items c.loop-open.open c.args.number (c.args.number + c.len.result) c.in-Err.fault c.loop-open-test.true c.loop-open.invariant.front (omega (arith, c.len.ensures)) c.in-Err.ensures.line.0
    c.in-Err.ensures.line.1

pub returns-in-Err-read_node-clause-read : goal.returns-in-Err-read_node-clause-read
returns-in-Err-read_node-clause-read c =
    λ places at.
    rw c.fault_at.ensures
    (tree_wrong c.args.problem.now places at (bare c.args.bytes.now) (bare c.loop-open.rest.now) c.in-Ok.found.0.now (bare c.in-Ok.found.1.now) c.loop-open.lines.items c.loop-open.open c.args.number (c.args.number + c.len.result) c.in-Err-read_node.fault c.loop-open-test.true c.loop-open.invariant.front
    (omega (arith, c.len.ensures)) c.in-Ok.ensures.line c.in-Err-read_node.ensures)

pub loop-open-preserved : goal.loop-open-preserved
loop-open-preserved c =
    let count : length c.add_line.new.lines.items ≡ length c.loop-open.lines.items + 1 = omega (arith, ap length c.in_ok-add_line.ensures, length-append c.loop-open.lines.items (c.in-Ok-read_node.line ∷ [])) in
    record {
      front = rw c.in_ok-add_line.ensures
          (tree_goes_on c.args.problem.now (bare c.args.bytes.now) (bare c.loop-open.rest.now) c.in-Ok.found.0.now (bare c.in-Ok.found.1.now) c.loop-open.lines.items c.loop-open.open c.children_of.result (c.loop-open.open - 1 + c.children_of.result) c.in-Ok-read_node.line c.loop-open-test.true c.in-Ok.ensures.line
          c.in-Ok-read_node.ensures c.children_of.ensures.value refl c.loop-open.invariant.front);
      short = omega (arith, count, c.in-Ok.ensures.shorter, c.loop-open.invariant.short);
      small = omega (arith, count, c.children_of.ensures.small, c.loop-open.invariant.small);
    }

pub returns-clause-read : goal.returns-clause-read
returns-clause-read c = tree_ends c.args.problem.now (bare c.args.bytes.now) (bare c.loop-open.rest.now) c.loop-open.lines.items c.loop-open.open c.loop-open-test.false c.loop-open.invariant.front
