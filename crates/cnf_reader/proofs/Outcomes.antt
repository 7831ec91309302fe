-- A file is read as the statements of a tree say, or a fault stands where its tokens stop.
use Rattle.std.proofs.Common.{◌≡◌, ℕ, ◌≤◌, Bool, true, false, true≢false, List, [], ◌∷◌, ◌++◌, length, map, Option, Some, None, Result, Ok, Err, refl, sym, ap, ◌∙◌, subst, if◌then◌else◌}
use Rattle.std.proofs.lemmas.List.{append-nil, append_assoc, map-append}
use Rattle.tptp_lexer.specs.Spots.{spot_at}
use Rattle.tptp_lexer.specs.Tokens.{tokens_of}
use Rattle.tptp_lexer.specs.declared.token.Token.{Token}
use Rattle.tptp_lexer.specs.declared.token.LexFault.{LexFault}
use Rattle.cnf_grammar.specs.Meaning.{ClauseLiteral, meaning}
use Rattle.cnf_grammar.specs.Shapes.{Shape}
use Rattle.cnf_grammar.specs.Spelling.{spell_statement}
use Rattle.cnf_grammar.specs.Table.{run, start, is_end}
use Rattle.cnf_grammar.specs.Trees as trees
use Rattle.cnf_grammar.specs.declared.state.State.{State}
use Rattle.cnf_grammar.specs.declared.state.State.TheVariants.{ClauseClosed, IncludeClosed}
use Rattle.cnf_grammar.proofs.Joined.{only_files, some_is_front, may_end, run_step}
use Rattle.cnf_grammar.proofs.Whole.{file_gathered}
use Rattle.cnf_reader.specs.declared.fault.ReadKind.{ReadKind}
use Rattle.cnf_reader.specs.declared.fault.ReadKind.TheVariants.{Expected}
use Rattle.cnf_reader.specs.declared.fault.ReadFault.{ReadFault}
use Rattle.cnf_reader.specs.declared.kept.Kept.{Kept}
use Rattle.cnf_reader.specs.declared.pending.Pending.{Pending}
use Rattle.cnf_reader.specs.Files.{shapes_in, written_in, written_tokens, AsksFor, SaysOne, Says, IsReadAsSaid}
use Rattle.cnf_reader.specs.Keeping.{keep, is_full}
use Rattle.cnf_reader.specs.Meanings.{Written, shapes_of, ends_statement, names_seen, TakesFront, TakesStatement, HoldsItsMeaning}
use Rattle.cnf_reader.specs.Parts.{Lower}
use Rattle.cnf_reader.specs.Reading.{Source, shape_in, and_then, fault_at, go_on, at_end, read_tokens, read_source}
use Rattle.cnf_reader.specs.Statements.{fresh, take}
use Rattle.cnf_reader.specs.Stops.{SaysOfToken, Stop, at_token, at_text, at_the_end, in_include}
use Rattle.cnf_reader.proofs.Fronts.{front_grows, front_ends}
use Rattle.cnf_reader.proofs.Meant.{meant, starts_again}
use Rattle.cnf_reader.proofs.Saying.{shapes_same, says_more, says_spells}
use Rattle.cnf_reader.proofs.Standing.{Stands, fresh_stands, stands_on, none_taken, begins_next, include_names}
use Rattle.cnf_reader.proofs.Stopping.{token_says}
use Rattle.cnf_reader.proofs.Taking.{was_taken, took_no_fault, took_fault}
use Rattle.cnf_reader.proofs.Telling.{Tells, fresh_tells, tells_on}
use Rattle.cnf_reader.proofs.RowsMet.{fault_stands, fault_met}
use Rattle.cnf_reader.proofs.Clearing.{none_clear, clear_more, no_fault_there, clause_role}
use Rattle.cnf_reader.proofs.Within.{clause_limited}
use Rattle.cnf_reader.specs.Rows.{NoFaultAt, KeepsRules}

module _ (lower : Lower) (source : Source) (first : Kept) where
  abbrev all : List Token
  all = (tokens_of source.bytes).tokens

  abbrev written : List Token → List Written
  written tokens = map (written_in source.bytes) tokens

  abbrev shapes : List Token → List Shape
  shapes tokens = shapes_in source.bytes tokens

  -- these tokens were passed: those of whole statements, which say what is kept, and those of the statement under way
  record Has (passed : List Token) (p : Pending) (kept : Kept) : Type 0 where
    runs : run start (shapes passed) ≡ Some p.position
    before : List Written
    own : List Written
    cut : written passed ≡ before ++ own
    file : List trees.Statement
    says : Says lower source first before file kept
    front : TakesFront (is_full kept) source.selections fresh own p
    stands : Stands own p
    tells : Tells (is_full kept) source.selections (shapes_of own) p
    clear : NoFaultAt (length kept.clauses) source.selections (shapes_of own)

  -- what comes of the file
  abbrev Comes : Result Kept ReadFault → Type 0
  Comes (Ok after) = IsReadAsSaid lower source first after
  Comes (Err fault) = Stop lower source first fault

  -- where these tokens are left, that comes of the file which comes of them
  abbrev Reads : List Token → Type 0
  Reads tokens = (passed : List Token) (p : Pending) (kept : Kept) (came : Result Kept ReadFault) → all ≡ passed ++ tokens → Has passed p kept → read_tokens lower source p kept tokens (tokens_of source.bytes).fault ≡ came → Comes came

  -- where none is left
  module _ (p : Pending) (kept : Kept) (has : Has all p kept) (came : Result Kept ReadFault) where
    whole_file : is_end p.position ≡ true → (tokens_of source.bytes).fault ≡ None → IsReadAsSaid lower source first kept
    whole_file ends none =
        let said : written_tokens source.bytes ≡ has.before = has.cut ∙ (ap (λ u. has.before ++ u) (none_taken has.own p has.stands ends) ∙ append-nil has.before) in
        let says : Says lower source first (written_tokens source.bytes) has.file kept = subst (λ u. Says lower source first u has.file kept) (sym said) has.says in
        record { file = has.file; spells = says_spells lower source first (written_tokens source.bytes) has.file kept says ∙ shapes_same source.bytes all; whole = none; says = says }

    by_end : (ends : Bool) → is_end p.position ≡ ends → (tokens_of source.bytes).fault ≡ None
        → (if ends then Ok kept else fault_at Expected source.name (spot_at source.bytes (length source.bytes)).line (spot_at source.bytes (length source.bytes)).column) ≡ came → Comes came
    by_end true is none e = subst Comes e (whole_file is none)
    by_end false is none e = subst Comes e (at_the_end has.before has.own has.file kept has.cut has.says has.clear none (some_is_front (shapes all) p.position has.runs) (λ file. true≢false (sym ((may_end (shapes all) p.position has.runs).1 file) ∙ is)) refl)

    by_text : (text : Option LexFault) → (tokens_of source.bytes).fault ≡ text → at_end source p kept text ≡ came → Comes came
    by_text None none e = by_end (is_end p.position) refl none e
    by_text (Some text) met e = subst Comes e (at_text has.before has.own has.file kept text has.cut has.says has.clear met (some_is_front (shapes all) p.position has.runs) refl)

  none_left : Reads []
  unfolding read_tokens
  none_left passed p kept came is has e = by_text p kept (subst (λ u. Has u p kept) (sym (is ∙ append-nil passed)) has) came (tokens_of source.bytes).fault refl e

  -- where a token is taken
  module _ (passed : List Token) (p : Pending) (kept : Kept) (has : Has passed p kept) (token : Token) (next : Pending)
      (takes : take (is_full kept) source.selections p (shape_in source.bytes token) token.line token.column ≡ Ok next) where
    abbrev here : Written
    here = written_in source.bytes token

    abbrev longer : List Token
    longer = passed ++ token ∷ []

    abbrev own : List Written
    own = has.own ++ here ∷ []

    cut_on : written longer ≡ has.before ++ own
    cut_on = map-append (written_in source.bytes) passed (token ∷ []) ∙ (ap (λ u. u ++ here ∷ []) has.cut ∙ append_assoc has.before has.own (here ∷ []))

    runs_on : run start (shapes longer) ≡ Some next.position
    runs_on =
        let k = was_taken (is_full kept) source.selections p here.shape here.line here.column next takes in
        ap (run start) (map-append (shape_in source.bytes) passed (token ∷ [])) ∙ (run_step (shapes passed) p.position here.shape has.runs ∙ (k.leads ∙ ap (λ (q : Pending). Some q.position) k.is))

    longer_shapes : shapes_of own ≡ shapes_of has.own ++ here.shape ∷ []
    longer_shapes = map-append (λ (w : Written). w.shape) has.own (here ∷ [])

    -- no fault stands at it either
    clear_on : NoFaultAt (length kept.clauses) source.selections (shapes_of own)
    clear_on =
        subst (NoFaultAt (length kept.clauses) source.selections) (sym longer_shapes)
        (clear_more (length kept.clauses) source.selections (shapes_of has.own) here.shape has.clear
        (λ kind stands. no_fault_there kind (sym (fault_met (is_full kept) source.selections (shapes_of has.own) p has.tells (length kept.clauses) refl here.shape kind stands) ∙ took_no_fault (is_full kept) source.selections p here.shape here.line here.column next takes)))

    -- it ends no statement
    goes_on : ends_statement p.position.state ≡ false → Has longer next kept
    goes_on goes = record {
      runs = runs_on;
      before = has.before;
      own = own;
      cut = cut_on;
      file = has.file;
      says = has.says;
      front = front_grows (is_full kept) source.selections fresh has.own p here next has.front goes takes;
      stands = stands_on (is_full kept) source.selections p has.own here next has.stands takes goes;
      tells = subst (λ u. Tells (is_full kept) source.selections u next) (sym longer_shapes) (tells_on (is_full kept) source.selections (shapes_of has.own) p next here.shape here.line here.column has.tells goes takes);
      clear = clear_on;
    }

    -- it ends one, which means what it holds
    module _ (state : State) (is : p.position.state ≡ state) (ends : ends_statement state ≡ true) where
      statement : TakesStatement (is_full kept) source.selections fresh own state next
      statement =
          subst (λ m. TakesStatement (is_full kept) source.selections fresh own m next) is
          (front_ends (is_full kept) source.selections fresh has.own p here next has.front (ap ends_statement is ∙ ends) takes)

      means : HoldsItsMeaning own state next
      means = meant (is_full kept) source.selections only_files file_gathered own state next statement

      alone : spell_statement means.0 ≡ shapes_of own
      alone = sym (append-nil (spell_statement means.0)) ∙ means.1

      says_own : (later : Kept) → SaysOne lower source kept own (meaning means.0) later → Has longer fresh later
      says_own later one =
          record {
            runs = runs_on ∙ ap Some (starts_again (is_full kept) source.selections own state next statement);
            before = has.before ++ own;
            own = [];
            cut = cut_on ∙ sym (append-nil (has.before ++ own));
            file = has.file ++ means.0 ∷ [];
            says = says_more lower source first has.before has.file kept own means.0 later has.says alone clear_on one;
            front = refl;
            stands = fresh_stands;
            tells = fresh_tells (is_full later) source.selections;
            clear = none_clear (length later.clauses) source.selections;
          }

    -- it ends a clause
    module _ (is : p.position.state ≡ ClauseClosed) where
      rules : KeepsRules (means ClauseClosed is refl).2.0
      rules =
          let m = means ClauseClosed is refl in
          let limits = (clause_limited (is_full kept) source.selections p next here.shape here.line here.column (length (shapes_of has.own)) has.tells.within is takes).0 in
          let holds = m.2.2 in
          record {
            role = clause_role (length kept.clauses) source.selections m.0 m.2.0 m.2.1 (subst (NoFaultAt (length kept.clauses) source.selections) (sym (alone ClauseClosed is refl)) clear_on);
            literals = subst (λ (l : List ClauseLiteral). length l ≤ 64) holds.literals limits.literals;
            variables = subst (λ (l : List (List ℕ)). length l ≤ 32) holds.variables limits.variables;
            items = rw (← holds.literals, ← holds.conclude) limits.choices;
          }

      keeps : Has longer fresh (keep source.selections kept source.number next)
      keeps =
          let m = means ClauseClosed is refl in
          let later = keep source.selections kept source.number next in
          says_own ClauseClosed is refl later
          (subst (λ u. SaysOne lower source kept own u later) (sym m.2.1) (record { statement = next; holds = m.2.2; rules = rules; begins = begins_next (is_full kept) source.selections p has.own here next has.stands takes; is = refl }))

    -- it ends an include
    module _ (is : p.position.state ≡ IncludeClosed) where
      asks : AsksFor own next.asked.file (names_seen next.asked.names) next.asked
      asks = record { file_is = refl; names_are = refl; stands = include_names (is_full kept) source.selections p has.own here next has.stands takes is }

      follows : (later : Kept) → lower next.asked kept ≡ Ok later → Has longer fresh later
      follows later reads = says_own IncludeClosed is refl later (subst (λ u. SaysOne lower source kept own u later) (sym (means IncludeClosed is refl).2) (record { asked = next.asked; asks = asks; reads = reads }))

      -- a fault in its file
      stops : (tokens : List Token) (fault : ReadFault) → all ≡ longer ++ tokens → lower next.asked kept ≡ Err fault → Stop lower source first fault
      stops tokens fault split reads =
          let m = means IncludeClosed is refl in
          in_include has.before own (written tokens) has.file m.0 kept next.asked.file (names_seen next.asked.names) next.asked
          (ap written split ∙ (map-append (written_in source.bytes) longer tokens ∙ (ap (λ u. u ++ written tokens) cut_on ∙ append_assoc has.before own (written tokens))))
          has.says (alone IncludeClosed is refl) clear_on m.2 asks reads

  -- where a token is left
  module _ (token : Token) (tokens : List Token) (reads_on : Reads tokens) (passed : List Token) (p : Pending) (kept : Kept) (came : Result Kept ReadFault) (is : all ≡ passed ++ token ∷ tokens) (has : Has passed p kept) where
    abbrev found : Result Pending ReadKind
    found = take (is_full kept) source.selections p (shape_in source.bytes token) token.line token.column

    abbrev rest : Pending → Kept → Result Kept ReadFault
    rest next later = read_tokens lower source next later tokens (tokens_of source.bytes).fault

    split : all ≡ (passed ++ token ∷ []) ++ tokens
    split = is ∙ sym (append_assoc passed (token ∷ []) tokens)

    by_include : (next : Pending) (read : Result Kept ReadFault) → found ≡ Ok next → p.position.state ≡ IncludeClosed → lower next.asked kept ≡ read → and_then read (λ later. rest fresh later) ≡ came → Comes came
    by_include next (Err fault) takes at reads e = subst Comes e (stops passed p kept has token next takes at tokens fault split reads)
    by_include next (Ok later) takes at reads e = reads_on (passed ++ token ∷ []) fresh later came split (follows passed p kept has token next takes at later reads) e

    by_token : (taken : Result Pending ReadKind) (state : State) → found ≡ taken → p.position.state ≡ state → go_on lower source kept state token taken rest ≡ came → Comes came
    by_token (Err kind) state takes at e =
        let here = written_in source.bytes token in
        let before : shapes passed ≡ shapes_of has.before ++ shapes_of has.own = sym (shapes_same source.bytes passed) ∙ (ap shapes_of has.cut ∙ map-append (λ (w : Written). w.shape) has.before has.own) in
        subst Comes e (at_token has.before has.own (written tokens) here has.file kept kind
        (ap written is ∙ (map-append (written_in source.bytes) passed (token ∷ tokens) ∙ (ap (λ u. u ++ here ∷ written tokens) has.cut ∙ append_assoc has.before has.own (here ∷ written tokens))))
        has.says has.clear
        (fault_stands (is_full kept) source.selections (shapes_of has.own) p has.tells (length kept.clauses) refl here.shape kind (took_fault (is_full kept) source.selections p here.shape here.line here.column kind takes))
        (subst (λ u. SaysOfToken kind u here.shape) before (token_says (is_full kept) source.selections p here.shape (shapes passed) has.runs kind token.line token.column takes))
        refl)
    by_token (Ok next) ClauseClosed takes at e = reads_on (passed ++ token ∷ []) fresh (keep source.selections kept source.number next) came split (keeps passed p kept has token next takes at) e
    by_token (Ok next) IncludeClosed takes at e = by_include next (lower next.asked kept) takes at refl e
    by_token (Ok next) state takes at e = reads_on (passed ++ token ∷ []) next kept came split (goes_on passed p kept has token next takes (ap ends_statement at)) e

  one_left : (token : Token) (tokens : List Token) → Reads tokens → Reads (token ∷ tokens)
  unfolding read_tokens
  one_left token tokens reads_on passed p kept came is has e =
      by_token token tokens reads_on passed p kept came is has (take (is_full kept) source.selections p (shape_in source.bytes token) token.line token.column) p.position.state refl refl e

  reads : (tokens : List Token) → Reads tokens
  reads [] = none_left
  reads (token ∷ tokens) = one_left token tokens (reads tokens)

  -- of all tokens of the file
  comes : (came : Result Kept ReadFault) → read_source lower source first ≡ came → Comes came
  comes came e =
      reads all [] fresh first came refl (record { runs = refl; before = []; own = []; cut = refl; file = []; says = (refl, refl); front = refl; stands = fresh_stands; tells = fresh_tells (is_full first) source.selections; clear = none_clear (length first.clauses) source.selections }) e

-- a file that reads without a fault is read as its statements say
pub read_as_said : (lower : Lower) (source : Source) (kept after : Kept) → read_source lower source kept ≡ Ok after → IsReadAsSaid lower source kept after
read_as_said lower source kept after e = comes lower source kept (Ok after) e

-- a fault of a file stands where its tokens stop
pub stops_somewhere : (lower : Lower) (source : Source) (kept : Kept) (fault : ReadFault) → read_source lower source kept ≡ Err fault → Stop lower source kept fault
stops_somewhere lower source kept fault e = comes lower source kept (Err fault) e
