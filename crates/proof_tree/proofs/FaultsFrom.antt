-- Faults of a text from a place on, and the front of a tree or of blocks that a text has.
use Rattle.std.proofs.Common.{◌≡◌, ◌≢◌, ℕ, zero, suc, ◌+◌, ◌-◌, ◌^◌, ◌≤◌, ◌<◌, true, List, [], ◌∷◌, ◌++◌, map, length, Some, All, refl, sym, ap, ◌∙◌, subst, append_assoc, length-append, codes, arith}
use Rattle.std.specs.Fmt.{decimal}
use Rattle.std.proofs.lemmas.List.{map-append, length-map}
use Rattle.std.proofs.lemmas.List.Elements.{All-nil, All-push}
use Rattle.mg_word.specs.Facts.{ProblemData}
use Rattle.mg_word.specs.Spelling.{spelled}
use Rattle.mg_word.specs.declared.lit.Lit.{Lit}
use Rattle.tree_checker.specs.Trees.{conclusions_at}
use Rattle.tree_checker.specs.Docs.{LineFits, IsKnown, IsBlock}
use Rattle.tree_checker.specs.declared.doc.LemmaBlock.{LemmaBlock}
use Rattle.tree_checker.specs.declared.doc.TreeLine.{TreeLine}
use Rattle.tree_checker.specs.declared.doc_fault.DocKind.{DocKind}
use Rattle.tree_checker.specs.declared.doc_fault.DocKind.TheVariants.{Early}
use Rattle.tree_checker.specs.declared.doc_fault.DocFault.{DocFault}
use Rattle.tree_checker.specs.declared.doc_fault.DocFault.TheVariants.{Line, NoMemory as OutOfMemory}
use Rattle.proof_tree.specs.DocLines.{DocLine, lemma_line, inside_line, outside_line, line_text, ended}
use Rattle.proof_tree.specs.DocText.{lit_in_line, tree_line, inner_lines, block_lines, blocks_lines, text_of}
use Rattle.proof_tree.specs.Standing.{Place, at_header, at_block, at_inside, at_outside, in_block, in_root, Leads}
use Rattle.proof_tree.specs.FirstFaults.{LineFault, has_no_feed, BeginsWithLine, FaultAt, FaultFrom}
use Rattle.proof_tree.specs.Reading.{IsNode, IsNoNode, IsNoSetText, fault_of, IsFaultFrom, IsSetAt, IsTreeAt, BeginsWithSet, BeginsWithTree, BeginsWithBlock, BeginsWithBlocks}
use Rattle.proof_tree.specs.declared.line_fault.LineFault.{LineFault as Fault}
use Rattle.proof_tree.specs.declared.line_fault.LineFault.TheVariants.{Wrong, NoMemory}
use Rattle.proof_tree.proofs.DocLeads.{Leads-append, lemma_set, counted_leads, blocks_lead}
use Rattle.proof_tree.proofs.TreeCounts.{trees_left, counted_trees, left_append}
use Rattle.proof_tree.proofs.Written.{ended_append, blocks_append}

-- no line has the fault that lines end too early
no_early : (problem : ProblemData) (place : Place) (line : List ℕ) → LineFault problem place line Early → ⊥
no_early problem at_header line fault = fault
no_early problem (at_block blocks) line fault = fault.3
no_early problem (at_inside blocks) line fault = fault.3
no_early problem (at_outside blocks) line fault = fault.3
no_early problem (in_block blocks wanted) line fault = fault.3
no_early problem (in_root zero) line fault = fault
no_early problem (in_root (suc wanted)) line fault = fault.3

-- what is wrong with a line is so of the text that it begins
fault_of_line : (problem : ProblemData) (place : Place) (text line after : List ℕ) (kind : DocKind) → BeginsWithLine text line after → LineFault problem place line kind → FaultAt problem place text kind
fault_of_line problem place text line after Early begins fault = absurd (no_early problem place line fault)
fault_of_line problem place text line after kind begins fault = (line, after, begins, fault)

pub not_end : (blocks : ℕ) → at_block blocks ≢ in_root 0
not_end blocks same = cc

module _ (problem : ProblemData) where
  -- the texts of lines one after another
  pub text-append : (lines more : List (DocLine (List ℕ))) → text_of problem (lines ++ more) ≡ text_of problem lines ++ text_of problem more
  text-append lines more = ap ended (map-append (line_text (spelled problem.symbols)) lines more) ∙ ended_append (map (line_text (spelled problem.symbols)) lines) (map (line_text (spelled problem.symbols)) more)

  pub text_on : (text rest behind : List ℕ) (lines more : List (DocLine (List ℕ))) → text ≡ text_of problem lines ++ rest → rest ≡ text_of problem more ++ behind → text ≡ text_of problem (lines ++ more) ++ behind
  text_on text rest behind lines more first second =
      first ∙ (ap (λ l. text_of problem lines ++ l) second ∙ (sym (append_assoc (text_of problem lines) (text_of problem more) behind) ∙ ap (λ l. l ++ behind) (sym (text-append lines more))))

  pub one_line : (line : DocLine (List ℕ)) (after : List ℕ) → line_text (spelled problem.symbols) line ++ 10 ∷ after ≡ text_of problem (line ∷ []) ++ after
  one_line line after = sym (append_assoc (line_text (spelled problem.symbols) line) (10 ∷ []) after)

  pub early_here : (place : Place) (text : List ℕ) (from : ℕ) (fault : DocFault) → fault ≡ Line from Early → has_no_feed text ≡ true → place ≢ in_root 0 → IsFaultFrom problem place text from fault
  early_here place text from fault is none other =
      let here : FaultFrom problem place text from from Early = record { before = []; place = place; front = refl; rest = text; split = refl; number_is = omega arith; fault = (none, λ empty. other) } in
      subst (IsFaultFrom problem place text from) (sym is) here

  pub wrong_here : (place : Place) (text line after : List ℕ) (from : ℕ) (kind : DocKind) → BeginsWithLine text line after → LineFault problem place line kind → FaultFrom problem place text from from kind
  wrong_here place text line after from kind begins fault = record {
    before = [];
    place = place;
    front = refl;
    rest = text;
    split = refl;
    number_is = omega arith;
    fault = fault_of_line problem place text line after kind begins fault;
  }

  -- a fault behind lines that lead on from a place
  pub fault_behind : (start middle : Place) (text rest : List ℕ) (lines : List (DocLine (List ℕ))) (from next : ℕ) (fault : DocFault) → Leads problem start lines middle → text ≡ text_of problem lines ++ rest → next ≡ length lines + from → IsFaultFrom problem middle rest next fault → IsFaultFrom problem start text from fault
  fault_behind start middle text rest lines from next (Line number kind) leads split is fault = record {
    before = lines ++ fault.before;
    place = fault.place;
    front = Leads-append problem start middle fault.place lines fault.before leads fault.front;
    rest = fault.rest;
    split = text_on text rest fault.rest lines fault.before split fault.split;
    number_is = omega (arith, fault.number_is, is, length-append lines fault.before);
    fault = fault.fault;
  }
  fault_behind start middle text rest lines from next OutOfMemory leads split is fault = tt

  -- a line that is no set
  pub set_wrong : (place : Place) (word text line after : List ℕ) (from : ℕ) (fault : Fault) → IsSetAt problem place word → BeginsWithLine text line after → IsNoSetText problem.symbols word line fault → IsFaultFrom problem place text from (fault_of from fault)
  set_wrong place word text line after from (Wrong kind) at begins wrong = wrong_here place text line after from kind begins (at.fault line kind wrong)
  set_wrong place word text line after from NoMemory at begins wrong = tt

  -- a fault behind the inside of a block
  pub outside_fault : (blocks : ℕ) (text rest : List ℕ) (set : List Lit) (from next : ℕ) (fault : DocFault) → next ≡ from + 1 → BeginsWithSet problem.symbols (codes "inside ") text rest set → IsFaultFrom problem (at_outside blocks) rest next fault → IsFaultFrom problem (at_inside blocks) text from fault
  outside_fault blocks text rest set from next fault is begins wrong =
      fault_behind (at_inside blocks) (at_outside blocks) text rest (inside_line (map lit_in_line set) ∷ []) from next fault (record { kind = refl; right = lemma_set problem set begins.is }, refl) (begins.split ∙ one_line (inside_line (map lit_in_line set)) rest) (omega (arith, is)) wrong

  -- a fault behind the outside of a block
  pub block_tree_fault : (blocks : ℕ) (text rest : List ℕ) (set : List Lit) (from next : ℕ) (fault : DocFault) → next ≡ from + 1 → BeginsWithSet problem.symbols (codes "outside ") text rest set → IsFaultFrom problem (in_block blocks 1) rest next fault → IsFaultFrom problem (at_outside blocks) text from fault
  block_tree_fault blocks text rest set from next fault is begins wrong =
      fault_behind (at_outside blocks) (in_block blocks 1) text rest (outside_line (map lit_in_line set) ∷ []) from next fault (record { kind = refl; right = lemma_set problem set begins.is }, refl) (begins.split ∙ one_line (outside_line (map lit_in_line set)) rest) (omega (arith, is)) wrong

  -- what a text has of a tree so far, with so many trees still to come
  pub record IsTreeFront (text rest : List ℕ) (lines : List TreeLine) (wanted : ℕ) : Type 0 where
    pub fitting : All (LineFits problem.symbols) lines
    pub known : All (IsKnown problem.forms) lines
    pub left : trees_left problem.forms 1 lines ≡ Some wanted
    pub split : text ≡ text_of problem (map tree_line lines) ++ rest

  pub tree_starts : (text : List ℕ) (lines : List TreeLine) → lines ≡ [] → IsTreeFront text text lines 1
  tree_starts text [] none = record { fitting = All-nil (LineFits problem.symbols); known = All-nil (IsKnown problem.forms); left = refl; split = refl }
  tree_starts text (line ∷ lines) none = cc

  pub tree_goes_on : (text rest line after : List ℕ) (lines : List TreeLine) (wanted below next : ℕ) (read : TreeLine) → 0 < wanted → BeginsWithLine rest line after → IsNode problem line read → below ≡ length (conclusions_at problem.forms read) → next ≡ wanted - 1 + below
      → IsTreeFront text rest lines wanted → IsTreeFront text after (lines ++ read ∷ []) next
  tree_goes_on text rest line after lines zero below next read some begins is counted sum so = absurd (omega (arith, some))
  tree_goes_on text rest line after lines (suc wanted) below next read some begins is counted sum so =
      let total : length (conclusions_at problem.forms read) + wanted ≡ next = omega (arith, counted, sum) in
      let texts : rest ≡ text_of problem (tree_line read ∷ []) ++ after = begins.split ∙ (ap (λ l. l ++ 10 ∷ after) (sym is.spelled_is) ∙ one_line (tree_line read) after) in
      record {
        fitting = All-push (LineFits problem.symbols) lines read so.fitting is.fits;
        known = All-push (IsKnown problem.forms) lines read so.known is.known;
        left = left_append problem.forms 1 (suc wanted) lines (read ∷ []) so.left ∙ ap Some total;
        split = text_on text rest after (map tree_line lines) (tree_line read ∷ []) so.split texts ∙ ap (λ l. text_of problem l ++ after) (sym (map-append tree_line lines (read ∷ [])));
      }

  module _ (places : ℕ → Place) (at : IsTreeAt problem places) where
    tree_fault : (text rest : List ℕ) (lines : List TreeLine) (wanted from next : ℕ) (fault : DocFault) → IsTreeFront text rest lines (suc wanted) → next ≡ from + length lines → IsFaultFrom problem (places (suc wanted)) rest next fault → IsFaultFrom problem (places 1) text from fault
    tree_fault text rest lines wanted from next fault so is wrong =
        fault_behind (places 1) (places (suc wanted)) text rest (map tree_line lines) from next fault (counted_leads problem places at lines 1 (suc wanted) so.fitting so.known so.left) so.split (omega (arith, is, length-map lines tree_line)) wrong

    pub tree_early : (text rest : List ℕ) (lines : List TreeLine) (wanted from next : ℕ) (fault : DocFault) → 0 < wanted → IsTreeFront text rest lines wanted → next ≡ from + length lines → fault ≡ Line next Early → has_no_feed rest ≡ true → IsFaultFrom problem (places 1) text from fault
    tree_early text rest lines zero from next fault some so is early none = absurd (omega (arith, some))
    tree_early text rest lines (suc wanted) from next fault some so is early none =
        tree_fault text rest lines wanted from next fault so is (early_here (places (suc wanted)) rest next fault early none (at.early wanted))

    pub tree_wrong : (text rest line after : List ℕ) (lines : List TreeLine) (wanted from next : ℕ) (fault : Fault) → 0 < wanted → IsTreeFront text rest lines wanted → next ≡ from + length lines → BeginsWithLine rest line after → IsNoNode problem line fault → IsFaultFrom problem (places 1) text from (fault_of next fault)
    tree_wrong text rest line after lines zero from next fault some so is begins wrong = absurd (omega (arith, some))
    tree_wrong text rest line after lines (suc wanted) from next (Wrong kind) some so is begins wrong =
        tree_fault text rest lines wanted from next (Line next kind) so is (wrong_here (places (suc wanted)) rest line after next kind begins (at.fault wanted line kind wrong))
    tree_wrong text rest line after lines (suc wanted) from next NoMemory some so is begins wrong = tt

  pub tree_ends : (text rest : List ℕ) (lines : List TreeLine) (wanted : ℕ) → wanted ≤ 0 → IsTreeFront text rest lines wanted → BeginsWithTree problem text rest lines
  tree_ends text rest lines zero none so = record { are = record { fitting = so.fitting; known = so.known; tree = counted_trees problem.forms 1 lines so.left }; split = so.split }
  tree_ends text rest lines (suc wanted) none so = absurd (omega (arith, none))

  -- blocks that a text begins with, with one more
  pub blocks_start : (text : List ℕ) (blocks : List LemmaBlock) → blocks ≡ [] → BeginsWithBlocks problem text text blocks
  blocks_start text [] none = record { are = All-nil (IsBlock problem); few = omega arith; split = refl }
  blocks_start text (block ∷ blocks) none = cc

  block_count : (blocks : List LemmaBlock) (number : ℕ) → number ≡ length blocks + 1 → 1 + length blocks ≡ number
  block_count blocks number is = omega (arith, is)

  pub blocks_go_on : (text rest line after behind : List ℕ) (blocks : List LemmaBlock) (number : ℕ) (block : LemmaBlock) → number ≡ length blocks + 1 → BeginsWithLine rest line after → line ≡ codes "lemma " ++ decimal number → number < 2 ^ 32
      → BeginsWithBlock problem after behind block → BeginsWithBlocks problem text rest blocks → BeginsWithBlocks problem text behind (blocks ++ block ∷ [])
  blocks_go_on text rest line after behind blocks number block is begins first small read so = record {
    are = All-push (IsBlock problem) blocks block so.are read.is;
    few = omega (arith, small, is, length-append blocks (block ∷ []));
    split = text_on text rest behind (blocks_lines 1 blocks) (block_lines number block) so.split
        (text_on rest after behind (lemma_line number ∷ []) (inner_lines block) (begins.split ∙ (ap (λ l. l ++ 10 ∷ after) first ∙ one_line (lemma_line number) after)) read.split)
        ∙ ap (λ l. text_of problem l ++ behind) (ap (λ n. blocks_lines 1 blocks ++ block_lines n block) (sym (block_count blocks number is)) ∙ sym (blocks_append 1 blocks block));
  }

  blocks_leads : (blocks : List LemmaBlock) → length blocks < 2 ^ 32 → All (IsBlock problem) blocks → Leads problem (at_block 0) (blocks_lines 1 blocks) (at_block (length blocks))
  blocks_leads blocks few are =
      let count : 0 + length blocks ≡ length blocks = omega arith in
      subst (λ n. Leads problem (at_block 0) (blocks_lines 1 blocks) (at_block n)) count (blocks_lead problem 0 blocks (omega (arith, few)) are)

  -- a fault where a block or the root may begin
  pub start_fault : (text rest : List ℕ) (blocks : List LemmaBlock) (from next : ℕ) (fault : DocFault) → BeginsWithBlocks problem text rest blocks → next ≡ length (blocks_lines 1 blocks) + from → IsFaultFrom problem (at_block (length blocks)) rest next fault → IsFaultFrom problem (at_block 0) text from fault
  start_fault text rest blocks from next fault so is wrong =
      fault_behind (at_block 0) (at_block (length blocks)) text rest (blocks_lines 1 blocks) from next fault (blocks_leads blocks so.few so.are) so.split is wrong

  -- a fault behind the first line of a block
  pub inner_fault : (text rest line after : List ℕ) (blocks : List LemmaBlock) (number from next : ℕ) (fault : DocFault) → number ≡ length blocks + 1 → BeginsWithLine rest line after → line ≡ codes "lemma " ++ decimal number → number < 2 ^ 32 → BeginsWithBlocks problem text rest blocks → next ≡ length (blocks_lines 1 blocks) + from
      → IsFaultFrom problem (at_inside (length blocks)) after (next + 1) fault → IsFaultFrom problem (at_block 0) text from fault
  inner_fault text rest line after blocks number from next fault is begins first small so counted wrong =
      let here : number ≡ suc (length blocks) = omega (arith, is) in
      start_fault text rest blocks from next fault so counted
      (fault_behind (at_block (length blocks)) (at_inside (length blocks)) rest after (lemma_line number ∷ []) next (next + 1) fault (record { kind = refl; right = (here, small) }, refl)
      (begins.split ∙ (ap (λ l. l ++ 10 ∷ after) first ∙ one_line (lemma_line number) after)) (omega arith) wrong)

  pub count_more : (blocks : List LemmaBlock) (block : LemmaBlock) → length (blocks_lines 1 (blocks ++ block ∷ [])) ≡ length (blocks_lines 1 blocks) + (3 + length block.tree)
  count_more blocks block =
      let all = ap length (blocks_append 1 blocks block) ∙ length-append (blocks_lines 1 blocks) (block_lines (1 + length blocks) block) in
      omega (arith, all, length-map block.tree tree_line)
