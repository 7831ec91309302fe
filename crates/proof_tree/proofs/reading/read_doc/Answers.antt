use Rattle.std.proofs.Common.{◌+◌, ◌<◌, ◌^◌, [], refl, length, subst, arith}
use Rattle.mg_word.specs.Facts.{IsProblem}
use Rattle.tree_checker.specs.declared.doc_fault.DocFault.TheVariants.{Line}
use Rattle.proof_tree.specs.Bare.{bare}
use Rattle.proof_tree.specs.Standing.{in_root}
use Rattle.proof_tree.proofs.DocLeads.{root_places}
use Rattle.proof_tree.proofs.WholeDocs.{header_behind, root_behind, behind_root, doc_is, no_doc, one_doc, doc_fault}
use Rattle.proof_tree.proofs.reading.read_doc.Goals as goal

pub returns-in-Err-clause-read : goal.returns-in-Err-clause-read
returns-in-Err-clause-read c = doc_fault c.args.problem.now c.args.bytes.now c.in-Err.fault (c.in-Err.ensures.read c.args.problem.now)

pub returns-in-Err-clause-exact : goal.returns-in-Err-clause-exact
returns-in-Err-clause-exact c =
    let is = subst IsProblem c.problem.view_is c.problem.invariant in
    no_doc c.args.problem.now is c.args.bytes.now c.in-Err.fault (doc_fault c.args.problem.now c.args.bytes.now c.in-Err.fault (c.in-Err.ensures.read c.args.problem.now))

pub returns-in-Err-read_blocks-clause-read : goal.returns-in-Err-read_blocks-clause-read
returns-in-Err-read_blocks-clause-read c =
    doc_fault c.args.problem.now c.args.bytes.now c.in-Err-read_blocks.fault (header_behind c.args.problem.now (bare c.args.bytes.now) (bare c.in-Ok.rest.now) c.in-Ok.ensures.read c.in-Err-read_blocks.fault c.in-Err-read_blocks.ensures.read)

pub returns-in-Err-read_blocks-clause-exact : goal.returns-in-Err-read_blocks-clause-exact
returns-in-Err-read_blocks-clause-exact c =
    let is = subst IsProblem c.problem.view_is c.problem.invariant in
    no_doc c.args.problem.now is c.args.bytes.now c.in-Err-read_blocks.fault (doc_fault c.args.problem.now c.args.bytes.now c.in-Err-read_blocks.fault (header_behind c.args.problem.now (bare c.args.bytes.now) (bare c.in-Ok.rest.now) c.in-Ok.ensures.read c.in-Err-read_blocks.fault c.in-Err-read_blocks.ensures.read))

pub returns-in-Err-read_tree-clause-read : goal.returns-in-Err-read_tree-clause-read
returns-in-Err-read_tree-clause-read c =
    let blocks = c.in-Ok-read_blocks.ensures.read in
    doc_fault c.args.problem.now c.args.bytes.now c.in-Err-read_tree.fault
    (root_behind c.args.problem.now (bare c.args.bytes.now) (bare c.in-Ok.rest.now) c.in-Ok.ensures.read (bare c.in-Ok-read_blocks.found.2.now) [] c.in-Ok-read_blocks.found.0.items c.in-Ok-read_blocks.found.1 blocks.0 blocks.1 c.in-Err-read_tree.fault (c.in-Err-read_tree.ensures.read in_root (root_places c.args.problem.now)))

pub returns-in-Err-read_tree-clause-exact : goal.returns-in-Err-read_tree-clause-exact
returns-in-Err-read_tree-clause-exact c =
    let is = subst IsProblem c.problem.view_is c.problem.invariant in
    let blocks = c.in-Ok-read_blocks.ensures.read in
    no_doc c.args.problem.now is c.args.bytes.now c.in-Err-read_tree.fault
    (doc_fault c.args.problem.now c.args.bytes.now c.in-Err-read_tree.fault
    (root_behind c.args.problem.now (bare c.args.bytes.now) (bare c.in-Ok.rest.now) c.in-Ok.ensures.read (bare c.in-Ok-read_blocks.found.2.now) [] c.in-Ok-read_blocks.found.0.items c.in-Ok-read_blocks.found.1 blocks.0 blocks.1 c.in-Err-read_tree.fault (c.in-Err-read_tree.ensures.read in_root (root_places c.args.problem.now))))

pub returns-in-Some-clause-read : goal.returns-in-Some-clause-read
returns-in-Some-clause-read c =
    let blocks = c.in-Ok-read_blocks.ensures.read in
    behind_root c.args.problem.now (bare c.args.bytes.now) (bare c.in-Ok.rest.now) c.in-Ok.ensures.read (bare c.in-Ok-read_blocks.found.2.now) (bare c.in-Ok-read_tree.found.1.now) c.in-Ok-read_blocks.found.0.items c.in-Ok-read_blocks.found.1 blocks.0 blocks.1 c.in-Ok-read_tree.found.0.items c.in-Ok-read_tree.ensures.read c.in-Some.kind (c.in-Ok-read_blocks.found.1 + c.len.result) (omega (arith, c.len.ensures)) (c.in-Some.ensures c.args.problem.now)

pub returns-in-Some-clause-exact : goal.returns-in-Some-clause-exact
returns-in-Some-clause-exact c =
    let is = subst IsProblem c.problem.view_is c.problem.invariant in
    let blocks = c.in-Ok-read_blocks.ensures.read in
    no_doc c.args.problem.now is c.args.bytes.now (Line (c.in-Ok-read_blocks.found.1 + c.len.result) c.in-Some.kind)
    (behind_root c.args.problem.now (bare c.args.bytes.now) (bare c.in-Ok.rest.now) c.in-Ok.ensures.read (bare c.in-Ok-read_blocks.found.2.now) (bare c.in-Ok-read_tree.found.1.now) c.in-Ok-read_blocks.found.0.items c.in-Ok-read_blocks.found.1 blocks.0 blocks.1 c.in-Ok-read_tree.found.0.items c.in-Ok-read_tree.ensures.read c.in-Some.kind (c.in-Ok-read_blocks.found.1 + c.len.result) (omega (arith, c.len.ensures)) (c.in-Some.ensures c.args.problem.now))

pub returns-clause-read : goal.returns-clause-read
returns-clause-read c =
    let blocks = c.in-Ok-read_blocks.ensures.read in
    let small : length c.args.bytes.now < 2 ^ 63 = omega arith in
    rw (c.new.ensures, c.new-2.ensures) (doc_is c.args.problem.now (bare c.args.bytes.now) (bare c.in-Ok.rest.now) c.in-Ok.ensures.read (bare c.in-Ok-read_blocks.found.2.now) (bare c.in-Ok-read_tree.found.1.now) c.in-Ok-read_blocks.found.0.items c.in-Ok-read_blocks.found.1 blocks.0 blocks.1 c.in-Ok-read_tree.found.0.items c.in-Ok-read_tree.ensures.read c.args.bytes.now small refl c.in_default.ensures)

pub returns-clause-only : goal.returns-clause-only
returns-clause-only c =
    let is = subst IsProblem c.problem.view_is c.problem.invariant in
    let blocks = c.in-Ok-read_blocks.ensures.read in
    let small : length c.args.bytes.now < 2 ^ 63 = omega arith in
    let found = doc_is c.args.problem.now (bare c.args.bytes.now) (bare c.in-Ok.rest.now) c.in-Ok.ensures.read (bare c.in-Ok-read_blocks.found.2.now) (bare c.in-Ok-read_tree.found.1.now) c.in-Ok-read_blocks.found.0.items c.in-Ok-read_blocks.found.1 blocks.0 blocks.1 c.in-Ok-read_tree.found.0.items c.in-Ok-read_tree.ensures.read c.args.bytes.now small refl c.in_default.ensures in
    λ other at. rw (c.new.ensures, c.new-2.ensures) (one_doc c.args.problem.now is c.args.bytes.now _ other found at)
