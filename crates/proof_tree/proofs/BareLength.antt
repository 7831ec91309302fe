-- How many lines a text has, by its length.
use Rattle.std.proofs.Common.{◌≡◌, ℕ, ◌+◌, ◌≤◌, Bool, true, false, List, [], ◌∷◌, map, length, nat_eq, if◌then◌else◌, refl, length-append, arith}
use Rattle.std.proofs.lemmas.List.{length-map}
use Rattle.mg_word.specs.Facts.{ProblemData}
use Rattle.mg_word.specs.Spelling.{spelled}
use Rattle.tree_checker.specs.Docs.{lines_before}
use Rattle.tree_checker.specs.declared.doc.LemmaBlock.{LemmaBlock}
use Rattle.tree_checker.specs.declared.doc.TreeLine.{TreeLine}
use Rattle.proof_tree.specs.Bare.{Spot, start, kept, passed, next_spot, kept_byte, bare_from, bare}
use Rattle.proof_tree.specs.DocLines.{DocLine, root_line, line_text}
use Rattle.proof_tree.specs.DocText.{tree_line, block_lines, blocks_lines, doc_lines, text_of}

byte_short : (spot : Spot) (byte : ℕ) → length (kept_byte spot byte) ≤ 1
byte_short start byte = by (nat_eq byte 37)
  where
    by : (b : Bool) → length (if b then [] else byte ∷ []) ≤ 1
    by true = omega arith
    by false = omega arith
byte_short kept byte = omega arith
byte_short passed byte = omega arith

from_short : (spot : Spot) (bytes : List ℕ) → length (bare_from spot bytes) ≤ length bytes
from_short spot [] = omega arith
from_short spot (byte ∷ bytes) =
    let rest = from_short (next_spot spot byte) bytes in
    omega (arith, rest, byte_short spot byte, length-append (kept_byte spot byte) (bare_from (next_spot spot byte) bytes))

-- no byte comes from nowhere
pub bare_short : (bytes : List ℕ) → length (bare bytes) ≤ length bytes
bare_short bytes = from_short start bytes

-- each line has its line feed
pub lines_short : (problem : ProblemData) (lines : List (DocLine (List ℕ))) → length lines ≤ length (text_of problem lines)
lines_short problem [] = omega arith
lines_short problem (line ∷ lines) =
    let rest = lines_short problem lines in
    omega (arith, rest, length-append (line_text (spelled problem.symbols) line) (10 ∷ text_of problem lines))

blocks_counted : (number : ℕ) (blocks : List LemmaBlock) → length (blocks_lines number blocks) + 1 ≡ lines_before blocks
blocks_counted number [] = refl
blocks_counted number (block ∷ blocks) =
    let rest = blocks_counted (number + 1) blocks in
    omega (arith, rest, length-append (block_lines number block) (blocks_lines (number + 1) blocks), length-map block.tree tree_line)

pub lines_counted : (blocks : List LemmaBlock) (root : List TreeLine) → length (doc_lines (record { lemmas = blocks; root = root })) ≡ lines_before blocks + 1 + length root
lines_counted blocks root = omega (arith, blocks_counted 1 blocks, length-append (blocks_lines 1 blocks) (root_line ∷ map tree_line root), length-map root tree_line)
