use Rattle.std.proofs.Common.{◌+◌, ap, length, arith}
use Rattle.tree_checker.specs.declared.doc_fault.DocFault.TheVariants.{Line}
use Rattle.proof_tree.specs.Bare.{bare}
use Rattle.proof_tree.specs.DocText.{blocks_lines}
use Rattle.proof_tree.specs.Standing.{at_block}
use Rattle.proof_tree.proofs.FaultsFrom.{early_here, wrong_here, start_fault, inner_fault, blocks_go_on, count_more, not_end}
use Rattle.proof_tree.proofs.reading.read_blocks.Goals as goal

pub returns-in-Err-clause-read : goal.returns-in-Err-clause-read
returns-in-Err-clause-read c =
    let front = c.loop-found.invariant in
    start_fault c.args.problem.now (bare c.args.bytes.now) (bare c.loop-found.rest.now) c.loop-found.blocks.items 2 c.loop-found.number c.in-Err.fault front.so front.counted
    (early_here c.args.problem.now (at_block (length c.loop-found.blocks.items)) (bare c.loop-found.rest.now) c.loop-found.number c.in-Err.fault c.in-Err.ensures.line.0 c.in-Err.ensures.line.1 (not_end (length c.loop-found.blocks.items)))

pub returns-in-Err-read_start-clause-read : goal.returns-in-Err-read_start-clause-read
returns-in-Err-read_start-clause-read c =
    let front = c.loop-found.invariant in
    start_fault c.args.problem.now (bare c.args.bytes.now) (bare c.loop-found.rest.now) c.loop-found.blocks.items 2 c.loop-found.number (Line c.loop-found.number c.in-Err-read_start.kind) front.so front.counted
    (wrong_here c.args.problem.now (at_block (length c.loop-found.blocks.items)) (bare c.loop-found.rest.now) c.in-Ok.found.0.now (bare c.in-Ok.found.1.now) c.loop-found.number c.in-Err-read_start.kind c.in-Ok.ensures.line
    (c.in-Err-read_start.ensures c.args.problem.now (length c.loop-found.blocks.items) (omega (arith, c.len.ensures))))

pub returns-in-Err-read_block-clause-read : goal.returns-in-Err-read_block-clause-read
returns-in-Err-read_block-clause-read c =
    let front = c.loop-found.invariant in
    let start = rw c.in-Ok-Lemma.field-0-is at c.in-Ok-Lemma.ensures in
    inner_fault c.args.problem.now (bare c.args.bytes.now) (bare c.loop-found.rest.now) c.in-Ok.found.0.now (bare c.in-Ok.found.1.now) c.loop-found.blocks.items (c.len.result + 1) 2 c.loop-found.number c.in-Err-read_block.fault (omega (arith, c.len.ensures)) c.in-Ok.ensures.line start.0 start.1 front.so front.counted
    (c.in-Err-read_block.ensures.read (length c.loop-found.blocks.items))

pub loop-found-preserved : goal.loop-found-preserved
loop-found-preserved c =
    let front = c.loop-found.invariant in
    let start = rw c.in-Ok-Lemma.field-0-is at c.in-Ok-Lemma.ensures in
    let block = c.in-Ok-read_block.found.0 in
    let counted = ap (λ l. length (blocks_lines 1 l)) c.in_ok-add_block.ensures in
    record {
      so = rw c.in_ok-add_block.ensures
          (blocks_go_on c.args.problem.now (bare c.args.bytes.now) (bare c.loop-found.rest.now) c.in-Ok.found.0.now (bare c.in-Ok.found.1.now) (bare c.in-Ok-read_block.found.1.now) c.loop-found.blocks.items (c.len.result + 1) block (omega (arith, c.len.ensures)) c.in-Ok.ensures.line start.0 start.1
          c.in-Ok-read_block.ensures.read front.so);
      counted = omega (arith, counted, count_more c.args.problem.now c.loop-found.blocks.items block, c.len-in-loop-found.ensures, front.counted);
      short = omega (arith, c.in-Ok.ensures.shorter, c.in-Ok-read_block.ensures.shorter, c.len-in-loop-found.ensures, front.short);
    }
