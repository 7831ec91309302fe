-- Of told files one reply to the same words is right.
use Rattle.std.proofs.Common.{◌≡◌, ◌≢◌, ℕ, List, AllPairs, Option, Some, None, refl, sym, ap, ap₂, ◌∙◌, subst}
use Rattle.std.proofs.lemmas.List.Sorted.{IsPermutation-sym}
use Rattle.mg_word.specs.Facts.{InputData, ProblemData, IsProblem}
use Rattle.mg_word.proofs.Sorting.{permuted_different}
use Rattle.mg_outside.specs.Reading.{Table}
use Rattle.mg_outside.specs.declared.files.ReadAnswer.TheVariants.{Failed as ReadFailed, NoMemory as ReadNoMemory}
use Rattle.cnf_reader.specs.Reading.{StandsFirst, StandsBy, kind_read, last_read}
use Rattle.cnf_reader.proofs.OneReading.{one_input, one_fault, not_both}
use Rattle.cnf_reader.specs.declared.fault.ReadKind.{ReadKind}
use Rattle.cnf_reader.specs.declared.fault.ReadKind.TheVariants.{Files}
use Rattle.cnf_reader.specs.declared.fault.ReadFault.{ReadFault}
use Rattle.cnf_reader.specs.declared.fault.ReadFault.TheVariants.{At, NoMemory as NoMemoryToRead}
use Rattle.clause_form.specs.Faults.{Stands}
use Rattle.clause_form.specs.Forming.{IsFormed}
use Rattle.clause_form.specs.declared.fault.FormFault.{FormFault}
use Rattle.clause_form.specs.declared.fault.FormFault.TheVariants.{NoMemory as NoMemoryToForm}
use Rattle.clause_form.proofs.Excluding.{fault_excluded}
use Rattle.clause_form.proofs.OneProblem.{one_problem}
use Rattle.clause_form.proofs.Uniqueness.{one_first_fault}
use Rattle.tree_checker.specs.Docs.{Accepts, Rejects}
use Rattle.tree_checker.specs.declared.doc.Reject.TheVariants.{Line as BrokenLine}
use Rattle.tree_checker.specs.declared.doc_fault.DocKind.{DocKind}
use Rattle.tree_checker.specs.declared.doc_fault.DocFault.TheVariants.{Line as FaultyLine, NoMemory as NoMemoryForDoc}
use Rattle.proof_tree.proofs.OneFirstFault.{one_first_fault as one_doc_fault}
use Rattle.command_words.specs.Asking.{Request, Prove, Models, Check, Forms, Sample}
use Rattle.command_words.proofs.OneRequest.{one_request}
use Rattle.szs_report.specs.declared.check.CheckAnswer.{CheckAnswer}
use Rattle.szs_report.specs.declared.check.CheckAnswer.TheVariants.{Accepted, Rejected, Unread}
use Rattle.tree_board.specs.declared.mode.Limits.{Limits}
use Rattle.command_line.specs.Checks.{IsJudged, IsChecked}
use Rattle.command_line.specs.Listed.{Listed, IsListed}
use Rattle.command_line.specs.Problems.{IsProblemOf}
use Rattle.command_line.specs.Proves.{Proved, IsProved}
use Rattle.command_line.specs.Refusals.{Refusal, Unread as NotRead, Unformed, TreeAbsent, TreeFailed, MemoryOut, IsRefusal, refusal_read}
use Rattle.command_line.specs.Replies.{Reply, Usage, Answered, Refused, Answer, IsAnswer, IsRightReply}
use Rattle.command_line.specs.Runs.{AreDetermined, Fits, IsDetermined}
use Rattle.command_line.specs.Searched.{IsFound, search_of}
use Rattle.command_line.specs.Sources.{Source, OfFile, OfSample, IsFaultOf, IsInputOf}
use Rattle.command_line.specs.Wanted.{AsksOne, sample_limits, search_limits, searched_file, source_of, tree_file}
use Rattle.command_line.proofs.OneFinding.{searches_once}
use Rattle.command_line.proofs.OneListing.{lists_once}
use Rattle.command_line.proofs.OneReject.{reject_once}

-- words ask one worker for one command at most
pub one_asked : (words : List (List ℕ)) (a b : Request) → AsksOne words a → AsksOne words b → a ≡ b
one_asked words a b (asks, alone) (asks', alone') = one_request words a b asks asks'

-- told files have one input of a source
pub one_input_of : (files : Table) (source : Source) (a b : InputData) → IsInputOf (Some files) source a → IsInputOf (Some files) source b → a ≡ b
one_input_of files (OfFile file root) a b p q = one_input files file root a b p q
one_input_of files (OfSample size) a b p q = p ∙ sym q

-- told files have one problem of a source
pub one_problem_of : (files : Table) (source : Source) (a b : ProblemData) → IsProblemOf (Some files) source a → IsProblemOf (Some files) source b → a ≡ b
one_problem_of files source a b p q =
    let inputs : q.input ≡ p.input = one_input_of files source q.input p.input q.is p.is in
    let apart : AllPairs (λ x y. x ≢ y) p.input.symbols = permuted_different a.symbols p.input.symbols (IsPermutation-sym p.input.symbols a.symbols p.formed.symbols.permuted) p.sound.input.different in
    one_problem p.input apart a b p.formed (subst (λ (one : InputData). IsFormed one b) inputs q.formed)

known : (line : ℕ) (kind : DocKind) → FaultyLine line kind ≢ NoMemoryForDoc
known line kind same = cc

-- of a text one answer is right
judged_once : (problem : ProblemData) (text : List ℕ) (a b : CheckAnswer) → IsProblem problem → IsJudged problem text a → IsJudged problem text b → a ≡ b
judged_once problem text Accepted Accepted sound p q = refl
judged_once problem text Accepted (Rejected line why) sound p q = absurd (q.not_accepted (subst (λ doc. Accepts problem doc) (q.only p.doc p.read) p.accepts))
judged_once problem text Accepted (Unread line kind) sound p q = absurd (q.none p.doc p.read)
judged_once problem text (Rejected line why) Accepted sound p q = absurd (p.not_accepted (subst (λ doc. Accepts problem doc) (p.only q.doc q.read) q.accepts))
judged_once problem text (Rejected line why) (Rejected line' why') sound p q =
    let other = subst (λ doc. Rejects problem doc (BrokenLine line' why')) (p.only q.doc q.read) q.rejects in
    let same = reject_once problem p.doc line line' why why' p.rejects other in
    let lines : line ≡ line' = same.0 in
    let whys : why ≡ why' = same.1 in
    cc
judged_once problem text (Rejected line why) (Unread line' kind) sound p q = absurd (q.none p.doc p.read)
judged_once problem text (Unread line kind) Accepted sound p q = absurd (p.none q.doc q.read)
judged_once problem text (Unread line kind) (Rejected line' why) sound p q = absurd (p.none q.doc q.read)
judged_once problem text (Unread line kind) (Unread line' kind') sound p q =
    let fault : FaultyLine line kind ≡ FaultyLine line' kind' =
    one_doc_fault problem sound text (FaultyLine line kind) (FaultyLine line' kind') (known line kind) (known line' kind') p.faulty q.faulty in
    cc

same_text : (found : Option (List ℕ)) (a b : List ℕ) → found ≡ Some a → found ≡ Some b → a ≡ b
same_text found a b first second = cc

no_text : (found : Option (List ℕ)) (a : List ℕ) → found ≡ None → found ≡ Some a → ⊥
no_text found a first second = cc

module _ (files : Table) where
  checked_once : (source : Source) (tree : List ℕ) (a b : CheckAnswer) → IsChecked (Some files) source tree a → IsChecked (Some files) source tree b → a ≡ b
  checked_once source tree a b p q =
      let problems : q.problem ≡ p.problem = one_problem_of files source q.problem p.problem q.is p.is in
      let texts : q.text ≡ p.text = same_text (files tree) q.text p.text q.there p.there in
      judged_once p.problem p.text a b p.is.sound p.judged (subst (λ text. IsJudged p.problem text b) texts (subst (λ problem. IsJudged problem q.text b) problems q.judged))

  -- the plain tree of the source's problem fits the limits
  abbrev AllFit : Source → Limits → Type 0
  AllFit source limits = (problem : ProblemData) → IsProblemOf (Some files) source problem → Fits problem limits

  proved_once : (source : Source) (limits : Limits) (a b : Proved) → AllFit source limits → IsProved (Some files) source limits a → IsProved (Some files) source limits b → a ≡ b
  proved_once source limits a b fits p q =
      let problems : b.problem ≡ a.problem = one_problem_of files source b.problem a.problem q.is p.is in
      let findings : a.finding ≡ b.finding =
      searches_once a.problem limits p.journal q.journal a.finding b.finding p.is.sound (fits a.problem p.is) p.found (subst (λ problem. IsFound (search_of problem limits q.journal) b.finding) problems q.found) in
      ap₂ (λ problem finding. record { problem = problem; finding = finding }) (sym problems) findings

  listed_once : (source : Source) (limits : Limits) (a b : Listed) → AllFit source limits → IsListed (Some files) source limits a → IsListed (Some files) source limits b → a ≡ b
  listed_once source limits a b fits p q =
      let problems : b.problem ≡ a.problem = one_problem_of files source b.problem a.problem q.is p.is in
      lists_once limits a b p.journal q.journal problems (fits a.problem p.is) p.lists q.lists

  -- one answer of a command is right
  answer_once : (request : Request) (a b : Answer request) → IsDetermined files request → IsAnswer request (Some files) a → IsAnswer request (Some files) b → a ≡ b
  answer_once (Prove search) a b determined p q = proved_once (searched_file search) (search_limits search) a b determined p q
  answer_once (Models search) a b determined p q = listed_once (searched_file search) (search_limits search) a b determined p q
  answer_once (Check file tree root) a b determined p q = checked_once (OfFile file root) tree a b p q
  answer_once (Forms file root) a b determined p q = one_problem_of files (OfFile file root) a b p q
  answer_once (Sample size workers budget) a b determined p q = listed_once (OfSample size) (sample_limits budget) a b determined p q

  -- the problem of an answer
  answered_problem : (request : Request) (answer : Answer request) → IsAnswer request (Some files) answer → (problem : ProblemData) × IsProblemOf (Some files) (source_of request) problem
  answered_problem (Prove search) answer right = (answer.problem, right.is)
  answered_problem (Models search) answer right = (answer.problem, right.is)
  answered_problem (Check file tree root) answer right = (right.problem, right.is)
  answered_problem (Forms file root) answer right = (answer, right)
  answered_problem (Sample size workers budget) answer right = (answer.problem, right.is)

  -- where no read failed the fault stands first in the files
  stands_by : (name : List ℕ) (root : Option (List ℕ)) (fault : ReadFault) (kind : ReadKind) → StandsBy kind (Some files) name root fault → kind_read kind ≢ ReadFailed → StandsFirst (Some files) name root fault
  stands_by name root fault Files stands whole = absurd (whole refl)
  stands_by name root fault kind stands whole = stands

  -- a fault stands first in what is read for a source; a sample is not read
  abbrev IsFirstIn : Source → ReadFault → Type 0
  IsFirstIn (OfFile file root) fault = StandsFirst (Some files) file root fault
  IsFirstIn (OfSample size) fault = ⊥

  stands_first : (source : Source) (fault : ReadFault) → IsFaultOf (Some files) source fault → fault ≢ NoMemoryToRead → last_read fault ≢ ReadFailed → IsFirstIn source fault
  stands_first (OfFile name root) (At kind file line column subject) stands some whole = stands_by name root (At kind file line column subject) kind stands whole
  stands_first (OfFile name root) NoMemoryToRead stands some whole = absurd (some refl)
  stands_first (OfSample size) fault stands some whole = stands

  one_first : (source : Source) (fault other : ReadFault) → IsFirstIn source fault → IsFirstIn source other → fault ≡ other
  one_first (OfFile file root) fault other stands stands' = one_fault files file root fault other stands stands'
  one_first (OfSample size) fault other stands stands' = absurd stands

  -- a source that has an input has no fault
  no_fault : (source : Source) (input : InputData) (fault : ReadFault) → IsInputOf (Some files) source input → IsFirstIn source fault → ⊥
  no_fault (OfFile file root) input fault is stands = not_both files file root input fault is stands
  no_fault (OfSample size) input fault is stands = stands

  module _ (request : Request) where
    -- what a refusal shows, where no read failed
    pub data Shown (refusal : Refusal) : Type 0 where
      unread : (fault : ReadFault) → refusal ≡ NotRead fault → IsFirstIn (source_of request) fault → Shown refusal
      unformed : (input : InputData) (fault : FormFault) → refusal ≡ Unformed input fault → IsInputOf (Some files) (source_of request) input → Stands input.clauses fault → fault ≢ NoMemoryToForm → Shown refusal
      absent : (tree : List ℕ) (problem : ProblemData) → refusal ≡ TreeAbsent tree → tree_file request ≡ Some tree → IsProblemOf (Some files) (source_of request) problem → files tree ≡ None → Shown refusal

    pub shown : (refusal : Refusal) → IsRefusal request (Some files) refusal → refusal_read refusal ≢ ReadFailed → refusal_read refusal ≢ ReadNoMemory → Shown refusal
    shown (NotRead fault) is whole enough = unread fault refl (stands_first (source_of request) fault is.stands is.some whole)
    shown (Unformed input fault) is whole enough = unformed input fault refl is.is is.stands is.some
    shown (TreeAbsent tree) (wanted, none) whole enough = absent tree wanted.problem refl wanted.named wanted.is none
    shown (TreeFailed tree) is whole enough = absurd (whole refl)
    shown MemoryOut is whole enough = absurd (enough refl)

    -- a problem that is there has no fault
    problem_unread : (problem : ProblemData) (fault : ReadFault) → IsProblemOf (Some files) (source_of request) problem → IsFirstIn (source_of request) fault → ⊥
    problem_unread problem fault is stands = no_fault (source_of request) is.input fault is.is stands

    problem_unformed : (problem : ProblemData) (input : InputData) (fault : FormFault) → IsProblemOf (Some files) (source_of request) problem → IsInputOf (Some files) (source_of request) input → Stands input.clauses fault → fault ≢ NoMemoryToForm → ⊥
    problem_unformed problem input fault there is stands some =
        fault_excluded there.input.clauses fault some (subst (λ (one : InputData). Stands one.clauses fault) (one_input_of files (source_of request) input there.input is there.is) stands) there.formed.faultless

    -- one refusal is right
    shown_once : (a b : Refusal) → Shown a → Shown b → a ≡ b
    shown_once a b (unread fault is stands) (unread fault' is' stands') = is ∙ (ap NotRead (one_first (source_of request) fault fault' stands stands') ∙ sym is')
    shown_once a b (unread fault is stands) (unformed input fault' is' own stands' some) = absurd (no_fault (source_of request) input fault own stands)
    shown_once a b (unread fault is stands) (absent tree problem is' named so none) = absurd (problem_unread problem fault so stands)
    shown_once a b (unformed input fault is own stands some) (unread fault' is' stands') = absurd (no_fault (source_of request) input fault' own stands')
    shown_once a b (unformed input fault is own stands some) (unformed input' fault' is' own' stands' some') =
        let inputs : input' ≡ input = one_input_of files (source_of request) input' input own' own in
        let faults : fault ≡ fault' = one_first_fault input.clauses fault fault' some some' stands (subst (λ (one : InputData). Stands one.clauses fault') inputs stands') in
        cc
    shown_once a b (unformed input fault is own stands some) (absent tree problem is' named so none) = absurd (problem_unformed problem input fault so own stands some)
    shown_once a b (absent tree problem is named so none) (unread fault is' stands) = absurd (problem_unread problem fault so stands)
    shown_once a b (absent tree problem is named so none) (unformed input fault is' own stands some) = absurd (problem_unformed problem input fault so own stands some)
    shown_once a b (absent tree problem is named so none) (absent tree' problem' is' named' so' none') = cc

  -- where a problem is there, and its tree if one is named, no refusal is right
  pub refused_not : (request : Request) (problem : ProblemData) (refusal : Refusal) → IsProblemOf (Some files) (source_of request) problem → ((tree : List ℕ) → tree_file request ≡ Some tree → files tree ≡ None → ⊥) → Shown request refusal → ⊥
  refused_not request problem refusal there trees (unread fault is stands) = problem_unread request problem fault there stands
  refused_not request problem refusal there trees (unformed input fault is own stands some) = problem_unformed request problem input fault there own stands some
  refused_not request problem refusal there trees (absent tree own is named so none) = trees tree named none

  -- the tree of an answer is there
  tree_there : (request : Request) (answer : Answer request) → IsAnswer request (Some files) answer → (tree : List ℕ) → tree_file request ≡ Some tree → files tree ≡ None → ⊥
  tree_there (Prove search) answer right tree named none = cc
  tree_there (Models search) answer right tree named none = cc
  tree_there (Check file own root) answer right tree named none =
      let same : tree ≡ own = cc in
      no_text (files own) right.text (subst (λ name. files name ≡ None) same none) right.there
  tree_there (Forms file root) answer right tree named none = cc
  tree_there (Sample size workers budget) answer right tree named none = cc

  -- where an answer is right no refusal is
  answer_shown : (request : Request) (answer : Answer request) (refusal : Refusal) → IsAnswer request (Some files) answer → Shown request refusal → ⊥
  answer_shown request answer refusal right other =
      let own = answered_problem request answer right in
      refused_not request own.0 refusal own.1 (tree_there request answer right) other

  -- one reply to the words is right
  pub one_reply : (words : List (List ℕ)) → AreDetermined words files → (a b : Reply) → IsRightReply words files a → IsRightReply words files b → a ≡ b
  one_reply words determined Usage Usage p q = refl
  one_reply words determined Usage (Answered request answer) p q = absurd (p.to request q.to)
  one_reply words determined Usage (Refused request refusal) p q = absurd (p.to request q.to)
  one_reply words determined (Answered request answer) Usage p q = absurd (q.to request p.to)
  one_reply words determined (Refused request refusal) Usage p q = absurd (q.to request p.to)
  one_reply words determined (Answered request answer) (Answered request' answer') p q =
      subst (λ other. (one : Answer other) → IsAnswer other (Some files) one → Answered request answer ≡ Answered other one) (one_asked words request request' p.to q.to)
      (λ one right. ap (λ one. Answered request one) (answer_once request answer one (determined request p.to) p.cause right)) answer' q.cause
  one_reply words determined (Answered request answer) (Refused request' refusal) p q =
      let same = one_asked words request' request q.to p.to in
      absurd (answer_shown request answer refusal p.cause (shown request refusal (subst (λ one. IsRefusal one (Some files) refusal) same q.cause) q.whole q.enough))
  one_reply words determined (Refused request refusal) (Answered request' answer) p q =
      let same = one_asked words request request' p.to q.to in
      absurd (answer_shown request' answer refusal q.cause (shown request' refusal (subst (λ one. IsRefusal one (Some files) refusal) same p.cause) p.whole p.enough))
  one_reply words determined (Refused request refusal) (Refused request' refusal') p q =
      let same = one_asked words request request' p.to q.to in
      let first = shown request refusal p.cause p.whole p.enough in
      let second = shown request refusal' (subst (λ one. IsRefusal one (Some files) refusal') (sym same) q.cause) q.whole q.enough in
      let refusals : refusal ≡ refusal' = shown_once request refusal refusal' first second in
      ap (λ one. Refused one refusal) same ∙ ap (λ one. Refused request' one) refusals
