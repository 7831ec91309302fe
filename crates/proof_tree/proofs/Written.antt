-- Texts of lines that are written one after another.
use Rattle.std.proofs.Common.{◌≡◌, ℕ, ◌+◌, ◌<◌, ◌≤◌, List, [], ◌∷◌, ◌++◌, map, length, take, get_or, refl, sym, ap, ◌∙◌, append_assoc, append-nil, codes, arith, zero, suc}
use Rattle.std.proofs.lemmas.List.{take_more, map-append}
use Rattle.tree_checker.specs.declared.doc.LemmaBlock.{LemmaBlock}
use Rattle.mg_word.specs.Facts.{ProblemData}
use Rattle.mg_word.specs.Spelling.{spelled, spelled_lit}
use Rattle.mg_word.specs.declared.lit.Lit.{Lit}
use Rattle.term_text.specs.Lits.{lit_text}
use Rattle.tree_checker.specs.declared.doc.TreeLine.{TreeLine}
use Rattle.proof_tree.specs.DocLines.{DocLine, root_line, line_text, ended}
use Rattle.proof_tree.specs.DocText.{lit_in_line, tree_line, block_lines, blocks_lines, text_of}

pub ended_append : (xs ys : List (List ℕ)) → ended (xs ++ ys) ≡ ended xs ++ ended ys
ended_append [] ys = refl
ended_append (x ∷ xs) ys = ap (λ l. x ++ 10 ∷ l) (ended_append xs ys) ∙ sym (append_assoc x (10 ∷ ended xs) (ended ys))

-- the lines of blocks with one more
pub blocks_append : (number : ℕ) (blocks : List LemmaBlock) (block : LemmaBlock) → blocks_lines number (blocks ++ block ∷ []) ≡ blocks_lines number blocks ++ block_lines (number + length blocks) block
blocks_append number [] block =
    let same : number ≡ number + 0 = omega arith in
    append-nil (block_lines number block) ∙ ap (λ n. block_lines n block) same
blocks_append number (first ∷ blocks) block =
    let same : (number + 1) + length blocks ≡ number + length (first ∷ blocks) = omega arith in
    ap (λ l. block_lines number first ++ l) (blocks_append (number + 1) blocks block ∙ ap (λ n. blocks_lines (number + 1) blocks ++ block_lines n block) same)
    ∙ sym (append_assoc (block_lines number first) (blocks_lines (number + 1) blocks) (block_lines (number + length (first ∷ blocks)) block))

length_take : {Y : Type 0} (ys : List Y) (n : ℕ) → n ≤ length ys → length (take n ys) ≡ n
length_take ys zero small = refl
length_take [] (suc n) small = absurd (omega arith)
length_take (y ∷ ys) (suc n) small = ap suc (length_take ys n (omega arith))

-- lines that are written up to one, with that one
pub lines_more : {X : Type 0} (f : X → List ℕ) (xs : List X) (i : ℕ) (x : X) (old now : List ℕ) → i < length xs → x ≡ get_or xs i x → now ≡ old ++ ended (map f (take i xs)) → now ++ (f x ++ 10 ∷ []) ≡ old ++ ended (map f (take (i + 1) xs))
lines_more f xs i x old now within is so =
    let more : take (i + 1) xs ≡ take i xs ++ x ∷ [] = take_more xs i x within ∙ ap (λ y. take i xs ++ y ∷ []) (sym is) in
    ap (λ l. l ++ (f x ++ 10 ∷ [])) so
    ∙ (append_assoc old (ended (map f (take i xs))) (f x ++ 10 ∷ [])
    ∙ ap (λ l. old ++ l) (sym (ap (λ l. ended (map f l)) more ∙ (ap ended (map-append f (take i xs) (x ∷ [])) ∙ ended_append (map f (take i xs)) (f x ∷ [])))))

-- the texts of lines that are mapped
pub mapped_text : {X : Type 0} (problem : ProblemData) (f : X → DocLine (List ℕ)) (xs : List X) → ended (map (λ x. line_text (spelled problem.symbols) (f x)) xs) ≡ text_of problem (map f xs)
mapped_text problem f [] = refl
mapped_text problem f (x ∷ xs) = ap (λ l. line_text (spelled problem.symbols) (f x) ++ 10 ∷ l) (mapped_text problem f xs)

texts-append : (problem : ProblemData) (lines more : List (DocLine (List ℕ))) → text_of problem (lines ++ more) ≡ text_of problem lines ++ text_of problem more
texts-append problem lines more = ap ended (map-append (line_text (spelled problem.symbols)) lines more) ∙ ended_append (map (line_text (spelled problem.symbols)) lines) (map (line_text (spelled problem.symbols)) more)

-- the same of blocks
pub blocks_more : (problem : ProblemData) (blocks : List LemmaBlock) (i : ℕ) (block : LemmaBlock) (old now : List ℕ) → i < length blocks → block ≡ get_or blocks i block → now ≡ old ++ text_of problem (blocks_lines 1 (take i blocks))
    → now ++ text_of problem (block_lines (i + 1) block) ≡ old ++ text_of problem (blocks_lines 1 (take (i + 1) blocks))
blocks_more problem blocks i block old now within is so =
    let more : take (i + 1) blocks ≡ take i blocks ++ block ∷ [] = take_more blocks i block within ∙ ap (λ y. take i blocks ++ y ∷ []) (sym is) in
    let number : 1 + length (take i blocks) ≡ i + 1 = omega (arith, length_take blocks i) in
    ap (λ l. l ++ text_of problem (block_lines (i + 1) block)) so
    ∙ (append_assoc old (text_of problem (blocks_lines 1 (take i blocks))) (text_of problem (block_lines (i + 1) block))
    ∙ ap (λ l. old ++ l)
    (sym (ap (λ l. text_of problem (blocks_lines 1 l)) more
    ∙ (ap (text_of problem) (blocks_append 1 (take i blocks) block ∙ ap (λ n. blocks_lines 1 (take i blocks) ++ block_lines n block) number)
    ∙ texts-append problem (blocks_lines 1 (take i blocks)) (block_lines (i + 1) block)))))

-- literals are written in lines as they are anywhere
pub lits_written : (problem : ProblemData) (lits : List Lit) → map (spelled_lit problem.symbols) lits ≡ map (lit_text (spelled problem.symbols)) (map lit_in_line lits)
lits_written problem [] = refl
lits_written problem (lit ∷ lits) = ap (λ l. spelled_lit problem.symbols lit ∷ l) (lits_written problem lits)

-- the lines of a block, part by part
pub block_written : (old number inside outside tree : List ℕ)
    → ((((((((old ++ codes "lemma ") ++ number) ++ 10 ∷ codes "inside ") ++ inside) ++ 10 ∷ codes "outside ") ++ outside) ++ 10 ∷ []) ++ tree)
    ≡ old ++ ((codes "lemma " ++ number) ++ 10 ∷ ((codes "inside " ++ inside) ++ 10 ∷ ((codes "outside " ++ outside) ++ 10 ∷ tree)))
block_written old number inside outside tree = simp append_assoc

-- the lines of a document, part by part
pub doc_written : (problem : ProblemData) (blocks : List LemmaBlock) (root : List TreeLine)
    → ((codes "mgtp tree 1" ++ 10 ∷ []) ++ text_of problem (blocks_lines 1 blocks)) ++ (codes "root" ++ 10 ∷ []) ++ text_of problem (map tree_line root) ≡ codes "mgtp tree 1" ++ 10 ∷ text_of problem (blocks_lines 1 blocks ++ root_line ∷ map tree_line root)
doc_written problem blocks root =
    append_assoc (codes "mgtp tree 1" ++ 10 ∷ [] ++ text_of problem (blocks_lines 1 blocks)) (codes "root" ++ 10 ∷ []) (text_of problem (map tree_line root)) ∙ ap (λ l. codes "mgtp tree 1" ++ 10 ∷ l) (sym (texts-append problem (blocks_lines 1 blocks) (root_line ∷ map tree_line root)))
