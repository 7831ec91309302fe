-- The blocks of a document: their lines' numbers, and the answers for whole documents.
use Rattle.std.proofs.Common.{◌≡◌, ℕ, ◌+◌, ◌<◌, ◌≤◌, zero, suc, List, [], ◌∷◌, ◌++◌, length, take, Some, slice_get, get_or, below_more, Result, Ok, Err, MatchResult, IfErr, inl, inr, refl, sym, ap, subst, ◌∙◌, arith}
use Rattle.std.proofs.lemmas.List.{take_more}
use Rattle.std.proofs.lemmas.Option.{slice_get_within}
use Rattle.mg_word.specs.Facts.{ProblemData}
use Rattle.mg_word.specs.declared.form.Form.{Form}
use Rattle.tree_checker.specs.Trees.{empty_branch}
use Rattle.tree_checker.specs.Closing.{Closes}
use Rattle.tree_checker.specs.Docs.{lemmas_of, branch_of, lines_before, BlocksClose, Accepts, Rejects, RejectsAt}
use Rattle.tree_checker.specs.declared.doc.Doc.{Doc}
use Rattle.tree_checker.specs.declared.doc.LemmaBlock.{LemmaBlock}
use Rattle.tree_checker.specs.declared.doc.Reject.{Reject}
use Rattle.tree_checker.specs.declared.doc.Reject.TheVariants.{Line, NoMemory as OutOfMemory}
use Rattle.tree_checker.proofs.Verdicts.{broken_not_closed}

pub lines_before-push : (blocks : List LemmaBlock) (block : LemmaBlock) → lines_before (blocks ++ block ∷ []) ≡ lines_before blocks + (3 + length block.tree)
lines_before-push [] block = refl
lines_before-push (first ∷ blocks) block = let rest = lines_before-push blocks block in omega (arith, rest)

pub lines_before-take : (blocks : List LemmaBlock) (n : ℕ) → lines_before (take n blocks) ≤ lines_before blocks
lines_before-take [] zero = omega arith
lines_before-take [] (suc n) = omega arith
lines_before-take (block ∷ blocks) zero = let rest = lines_before-take blocks zero in omega (arith, rest)
lines_before-take (block ∷ blocks) (suc n) = let rest = lines_before-take blocks n in omega (arith, rest)

pub block_line : (blocks : List LemmaBlock) (i : ℕ) (block : LemmaBlock) → i < length blocks → block ≡ get_or blocks i block
    → lines_before (take (i + 1) blocks) ≡ lines_before (take i blocks) + (3 + length block.tree)
block_line blocks i block inside is =
    ap lines_before (take_more blocks i block inside ∙ ap (λ b. take i blocks ++ b ∷ []) (sym is)) ∙ lines_before-push (take i blocks) block

pub block_room : (blocks : List LemmaBlock) (i : ℕ) (block : LemmaBlock) → i < length blocks → block ≡ get_or blocks i block
    → lines_before (take i blocks) + (3 + length block.tree) ≤ lines_before blocks
block_room blocks i block inside is = let line = block_line blocks i block inside is in let whole = lines_before-take blocks (i + 1) in omega (arith, line, whole)

-- one more block closes
pub BlocksClose-more : (forms : List Form) (blocks : List LemmaBlock) (i : ℕ) (block : LemmaBlock) → slice_get blocks i ≡ Some block → BlocksClose forms blocks i
    → Closes forms (lemmas_of (take i blocks)) (branch_of block) block.tree → BlocksClose forms blocks (i + 1)
BlocksClose-more forms blocks i block at before closes j other below other_at =
    below_more (λ k. (b : LemmaBlock) → slice_get blocks k ≡ Some b → Closes forms (lemmas_of (take k blocks)) (branch_of b) b.tree) i
    (λ k small b' here. before k b' small here)
    (λ b here. let same : block ≡ b = cc (at, here) in subst (λ c. Closes forms (lemmas_of (take i blocks)) (branch_of c) c.tree) same closes)
    j below other other_at

-- the whole document's verdict is that of the root, once the blocks close
pub verdict_at_end : (problem : ProblemData) (doc : Doc) (first : ℕ) (result : Result (Unit {0}) Reject) → BlocksClose problem.forms doc.lemmas (length doc.lemmas) → first ≡ lines_before doc.lemmas + 1 + 1
    → MatchResult result (λ _. Closes problem.forms (lemmas_of doc.lemmas) empty_branch doc.root) (RejectsAt problem.forms (lemmas_of doc.lemmas) empty_branch doc.root first)
    → MatchResult result (λ _. Accepts problem doc) (Rejects problem doc)
verdict_at_end problem doc first (Ok unit) blocks line told = record { blocks = blocks; root = told }
verdict_at_end problem doc first (Err reject) blocks line told =
    inr (record { before = blocks; rejects = subst (λ n. RejectsAt problem.forms (lemmas_of doc.lemmas) empty_branch doc.root n reject) line told })

-- a document with a broken line is not accepted
pub exact_at_end : (problem : ProblemData) (doc : Doc) (result : Result (Unit {0}) Reject) → MatchResult result (λ _. Accepts problem doc) (Rejects problem doc)
    → IfErr result (λ reject. (reject ≡ OutOfMemory → ⊥) → Accepts problem doc → ⊥)
exact_at_end problem doc (Ok unit) told = tt
exact_at_end problem doc (Err OutOfMemory) told = λ some accepts. some refl
exact_at_end problem doc (Err (Line line why)) (inl b) = λ some accepts.
    broken_not_closed problem.forms (lemmas_of (take b.at doc.lemmas)) (branch_of b.block) b.block.tree b.rejects.0 why b.rejects.2
    (accepts.blocks b.at b.block (slice_get_within doc.lemmas b.at b.block b.block_is) b.block_is)
exact_at_end problem doc (Err (Line line why)) (inr r) = λ some accepts.
    broken_not_closed problem.forms (lemmas_of doc.lemmas) empty_branch doc.root r.rejects.0 why r.rejects.2 accepts.root
