-- The tokens of a file, gathered along the table, leave what its statements say.
use Rattle.cnf_grammar.proofs.Common.{◌≡◌, ℕ, Bool, true, false, cond, not, ◌||◌, bytes_eq, List, [], ◌∷◌, ◌++◌, map, Option, Some, None, codes, sym, ◌∙◌, ap, subst, append_assoc, append-nil, Bracket, FormulaStart, FormulaClosed, SourceStart, Source, InfoStart, Info, InfoClosed, ClauseClosed, FileStart, FileRead, SelectionOpen, SelectedStart, SelectedRead, Position, Shape, Punct, right_round, right_square, comma, dot, is_mark, bare_word, quoted_word, Name, word_name, number_name, FileName, bare_file, quoted_file, Formula, Part, Annotations, no_annotations, annotations, Selection, every_clause, selected, clause, include, name_token, file_token, spell_formula, spell_part, spell_parts, spell_source, spell_items, spell_info, spell_annotations, spell_more_names, spell_names, spell_selection, spell_statement, spell, or_else, any_token, start, items_of, items_of_info, Named, named, ReadStatement, meaning, file_text, selected_names, empty_draft, draft_of, Gathered, gathered, finish_clause, finish_include, gather_from, run_from}
use Rattle.cnf_grammar.specs.Trees.{Info as InfoTree}
use Rattle.cnf_grammar.specs.Trees as trees
use Rattle.cnf_grammar.proofs.Accepting.{position}
use Rattle.cnf_grammar.proofs.OneTerm.{Ends, ends_comma, ends_round, regrouped}
use Rattle.cnf_grammar.proofs.Collected.{walk, walk-runs, walk-gathers, with_formula, collects-formula}
use Rattle.cnf_grammar.proofs.Drafted.{drafted}
use Rattle.cnf_grammar.proofs.Notes.{skip_test, take_test, not_none, GoesWithin, GoesOutside, notes-part, notes-parts}

-- all is gathered in the end
abbrev Leads : Option Position × Gathered → Gathered → Option Position → List Shape → Type 0
Leads target g o tokens = walk o g tokens ≡ target

abbrev with_item : Gathered → List Shape → Gathered
with_item g acc = record g { item = acc }

abbrev with_items : Gathered → List (List Shape) → Gathered
with_items g items = record g { items = items; item = [] }

-- a source adds nothing
source_within : (target : Option Position × Gathered) (g : Gathered) → GoesWithin (λ acc o tokens. Leads target g o tokens) Source
source_within target g acc level depth bracket outer s tokens h = h

source_outside : (target : Option Position × Gathered) (g : Gathered) → GoesOutside (λ acc o tokens. Leads target g o tokens) Source Source []
source_outside target g acc level depth s tokens apart round square h =
    let Q : Option Position → Type 0 = λ o. Leads target g o tokens in
    skip_test Q (is_mark comma s) (position InfoStart level depth []) (or_else (is_mark right_round s) (position ClauseClosed level depth []) (any_token (position Source level depth []) s)) apart
    (skip_test Q (is_mark right_round s) (position ClauseClosed level depth []) (any_token (position Source level depth []) s) round h)

source_first : (target : Option Position × Gathered) (g : Gathered) (brackets : List Bracket) → GoesOutside (λ acc o tokens. Leads target g o tokens) Source SourceStart brackets
source_first target g brackets acc level depth s tokens apart round square h =
    not_none (λ o. Leads target g o tokens) (is_mark comma s) (any_token (position Source level depth []) s) apart h

-- an info adds its tokens to the item under way
info_within : (target : Option Position × Gathered) (g : Gathered) → GoesWithin (λ acc o tokens. Leads target (with_item g acc) o tokens) Info
info_within target g acc level depth bracket outer s tokens h = h

neither : (a b : Bool) → a ≡ false → b ≡ false → (a || b) ≡ false
neither true b h k = cc
neither false b h k = k

info_outside : (target : Option Position × Gathered) (g : Gathered) → GoesOutside (λ acc o tokens. Leads target (with_item g acc) o tokens) Info Info []
info_outside target g acc level depth s tokens apart round square h =
    let ending = with_items g (g.items ++ acc ∷ []) in
    let more = with_item g (acc ++ s ∷ []) in
    let kept : cond (is_mark comma s || is_mark right_square s) ending more ≡ more = ap (λ b. cond b ending more) (neither (is_mark comma s) (is_mark right_square s) apart square) in
    subst (λ x. walk (or_else (is_mark right_square s) (position InfoClosed level depth []) (any_token (position Info level depth []) s)) x tokens ≡ target) (sym kept)
    (skip_test (λ o. Leads target more o tokens) (is_mark right_square s) (position InfoClosed level depth []) (any_token (position Info level depth []) s) square h)

info_parts : (target : Option Position × Gathered) (g : Gathered) (parts : List Part) (acc : List Shape) (level depth : ℕ) (rest : List Shape) → Leads target (with_item g (acc ++ spell_parts parts)) (Some (position Info level depth [])) rest → Leads target (with_item g acc) (Some (position Info level depth [])) (spell_parts parts ++ rest)
info_parts target g = notes-parts (λ acc o tokens. Leads target (with_item g acc) o tokens) Info (info_within target g) (info_outside target g)

info_items : (target : Option Position × Gathered) (g : Gathered) (items : List (List Part)) (before : List (List Shape)) (acc : List Shape) (level depth : ℕ) (rest : List Shape) → Leads target (with_items g (before ++ acc ∷ map spell_parts items)) (Some (position InfoClosed level depth [])) rest → Leads target (record g { items = before; item = acc }) (Some (position Info level depth [])) (spell_items items ++ Punct right_square ∷ rest)
info_items target g [] before acc level depth rest h = h
info_items target g (item ∷ more) before acc level depth rest h =
    subst (Leads target (with_items g (before ++ acc ∷ [])) (Some (position Info level depth []))) (sym (append_assoc (spell_parts item) (spell_items more) (Punct right_square ∷ rest)))
    (info_parts target (with_items g (before ++ acc ∷ [])) item [] level depth (spell_items more ++ Punct right_square ∷ rest)
    (info_items target g more (before ++ acc ∷ []) (spell_parts item) level depth rest
    (subst (λ u. Leads target (with_items g u) (Some (position InfoClosed level depth [])) rest) (sym (append_assoc before (acc ∷ []) (spell_parts item ∷ map spell_parts more))) h)))

info_read : (target : Option Position × Gathered) (g : Gathered) (info : InfoTree) (level depth : ℕ) (brackets : List Bracket) (rest : List Shape) → Leads target (with_items g (items_of_info info)) (Some (position InfoClosed level depth [])) rest → Leads target (with_items g []) (Some (position InfoStart level depth brackets)) (spell_info info ++ rest)
info_read target g info level depth brackets rest h =
    subst (Leads target (with_items g []) (Some (position Info level depth []))) (sym (regrouped (spell_parts info.first) (spell_items info.more) (Punct right_square ∷ []) rest))
    (info_parts target (with_items g []) info.first [] level depth (spell_items info.more ++ Punct right_square ∷ rest)
    (info_items target g info.more [] (spell_parts info.first) level depth rest h))

source_read : (target : Option Position × Gathered) (g : Gathered) (source : trees.Source) (level depth : ℕ) (brackets : List Bracket) (rest : List Shape) → Leads target g (Some (position Source level depth [])) rest → Leads target g (Some (position SourceStart level depth brackets)) (spell_source source ++ rest)
source_read target g source level depth brackets rest h =
    subst (Leads target g (Some (position SourceStart level depth brackets))) (sym (append_assoc (spell_part source.first) (spell_parts source.more) rest))
    (notes-part (λ acc o tokens. Leads target g o tokens) Source (source_within target g) SourceStart brackets (source_first target g brackets) source.first [] level depth (spell_parts source.more ++ rest)
    (notes-parts (λ acc o tokens. Leads target g o tokens) Source (source_within target g) (source_outside target g) source.more [] level depth rest h))

-- between statements
abbrev Between : Option Position × Gathered → Gathered → List Shape → Type 0
Between target g tokens = Leads target g (Some start) tokens

notes_read : (target : Option Position × Gathered) (g : Gathered) (notes : Annotations) (depth : ℕ) (brackets : List Bracket) (rest : List Shape) → Between target (finish_clause (with_items g (items_of notes))) rest → Leads target (with_items g []) (Some (position FormulaClosed 0 depth brackets)) (spell_annotations notes ++ Punct right_round ∷ (Punct dot ∷ rest))
notes_read target g no_annotations depth brackets rest h = h
notes_read target g (annotations source None) depth brackets rest h =
    subst (Leads target (with_items g []) (Some (position SourceStart 0 depth brackets))) (sym (append_assoc (spell_source source) [] (Punct right_round ∷ (Punct dot ∷ rest))))
    (source_read target (with_items g []) source 0 depth brackets (Punct right_round ∷ (Punct dot ∷ rest)) h)
notes_read target g (annotations source (Some info)) depth brackets rest h =
    subst (Leads target (with_items g []) (Some (position SourceStart 0 depth brackets))) (sym (append_assoc (spell_source source) (Punct comma ∷ spell_info info) (Punct right_round ∷ (Punct dot ∷ rest))))
    (source_read target (with_items g []) source 0 depth brackets (Punct comma ∷ (spell_info info ++ Punct right_round ∷ (Punct dot ∷ rest)))
    (info_read target g info 0 depth [] (Punct right_round ∷ (Punct dot ∷ rest)) h))

notes_end : (notes : Annotations) (rest : List Shape) → Ends (spell_annotations notes ++ Punct right_round ∷ rest)
notes_end no_annotations rest = ends_round
notes_end (annotations source info) rest = ends_comma

-- behind the comma after the role
formula_read : (target : Option Position × Gathered) (g : Gathered) (formula : Formula) (notes : Annotations) (depth : ℕ) (brackets : List Bracket) (rest : List Shape) → Between target (finish_clause (with_items (with_formula g (draft_of formula)) (items_of notes))) rest → Leads target (with_items (with_formula g empty_draft) []) (Some (position FormulaStart 0 depth brackets)) ((spell_formula formula ++ (spell_annotations notes ++ Punct right_round ∷ (Punct dot ∷ []))) ++ rest)
formula_read target g formula notes depth brackets rest h =
    let behind = spell_annotations notes ++ Punct right_round ∷ (Punct dot ∷ rest) in
    let start = with_items g [] in
    let read = collects-formula start formula 0 depth brackets empty_draft behind (notes_end notes (Punct dot ∷ rest)) in
    ap (walk (Some (position FormulaStart 0 depth brackets)) (with_formula start empty_draft)) (regrouped (spell_formula formula) (spell_annotations notes) (Punct right_round ∷ (Punct dot ∷ [])) rest)
    ∙ (read.1 ∙ (ap (λ d. walk (Some (position FormulaClosed 0 read.0 brackets)) (with_formula start d) behind) (drafted formula)
    ∙ notes_read target (with_formula g (draft_of formula)) notes read.0 brackets rest h))

-- names of an include
names_more : (target : Option Position × Gathered) (g : Gathered) (more : List Name) (before : List Named) (level depth : ℕ) (brackets : List Bracket) (rest : List Shape) → Between target (finish_include (record g { names = Some (before ++ map named more) })) rest → Leads target (record g { names = Some before }) (Some (position SelectedRead level depth brackets)) (spell_more_names more ++ Punct right_square ∷ (Punct right_round ∷ (Punct dot ∷ rest)))
names_more target g [] before level depth brackets rest h = subst (λ u. Leads target (finish_include (record g { names = Some u })) (Some start) rest) (append-nil before) h
names_more target g (name ∷ more) before level depth brackets rest h =
    one_name name (names_more target g more (before ++ named name ∷ []) level depth brackets rest
    (subst (λ u. Between target (finish_include (record g { names = Some u })) rest) (sym (append_assoc before (named name ∷ []) (map named more))) h))
  where
    one_name : (n : Name) → Leads target (record g { names = Some (before ++ named n ∷ []) }) (Some (position SelectedRead level depth brackets)) (spell_more_names more ++ Punct right_square ∷ (Punct right_round ∷ (Punct dot ∷ rest))) → Leads target (record g { names = Some before }) (Some (position SelectedStart level depth brackets)) (name_token n ∷ (spell_more_names more ++ Punct right_square ∷ (Punct right_round ∷ (Punct dot ∷ rest))))
    one_name (word_name (bare_word text)) k = k
    one_name (word_name (quoted_word text)) k = k
    one_name (number_name text) k = k

names_read : (target : Option Position × Gathered) (g : Gathered) (names : List Name) (level depth : ℕ) (brackets : List Bracket) (rest : List Shape) → Between target (finish_include (record g { names = Some (map named names) })) rest → Leads target (record g { names = Some [] }) (Some (position SelectionOpen level depth brackets)) (spell_names names ++ Punct right_square ∷ (Punct right_round ∷ (Punct dot ∷ rest)))
names_read target g [] level depth brackets rest h = h
names_read target g (word_name (bare_word text) ∷ more) level depth brackets rest h = names_more target g more (named (word_name (bare_word text)) ∷ []) level depth brackets rest h
names_read target g (word_name (quoted_word text) ∷ more) level depth brackets rest h = names_more target g more (named (word_name (quoted_word text)) ∷ []) level depth brackets rest h
names_read target g (number_name text ∷ more) level depth brackets rest h = names_more target g more (named (number_name text) ∷ []) level depth brackets rest h

selection_read : (target : Option Position × Gathered) (g : Gathered) (selection : Selection) (level depth : ℕ) (brackets : List Bracket) (rest : List Shape) → Between target (finish_include (record g { names = selected_names selection })) rest → Leads target (record g { names = None }) (Some (position FileRead level depth brackets)) ((spell_selection selection ++ Punct right_round ∷ (Punct dot ∷ [])) ++ rest)
selection_read target g every_clause level depth brackets rest h = h
selection_read target g (selected names) level depth brackets rest h =
    subst (Leads target (record g { names = Some [] }) (Some (position SelectionOpen level depth brackets)))
    (sym (append_assoc (spell_names names ++ Punct right_square ∷ []) (Punct right_round ∷ (Punct dot ∷ [])) rest ∙ append_assoc (spell_names names) (Punct right_square ∷ []) (Punct right_round ∷ (Punct dot ∷ rest))))
    (names_read target g names level depth brackets rest h)

file_read : (target : Option Position × Gathered) (g : Gathered) (file : FileName) (level depth : ℕ) (brackets : List Bracket) (tokens : List Shape) → Leads target (record g { file = file_text file }) (Some (position FileRead level depth brackets)) tokens → Leads target g (Some (position FileStart level depth brackets)) (file_token file ∷ tokens)
file_read target g (bare_file text) level depth brackets tokens h = h
file_read target g (quoted_file text full) level depth brackets tokens h =
    take_test (λ o. Leads target (record g { file = file_text (quoted_file text full) }) o tokens) (not (bytes_eq text (codes "''"))) (position FileRead level depth brackets) None (ap not full) h

-- a statement adds what it says
statement_read : (target : Option Position × Gathered) (statement : trees.Statement) (before : List ReadStatement) (rest : List Shape) → Between target (gathered (before ++ meaning statement ∷ [])) rest → Between target (gathered before) (spell_statement statement ++ rest)
statement_read target (clause (word_name (bare_word text)) role formula notes) before rest h =
    formula_read target (record (gathered before) { name = named (word_name (bare_word text)); role = role }) formula notes 0 [] rest h
statement_read target (clause (word_name (quoted_word text)) role formula notes) before rest h =
    formula_read target (record (gathered before) { name = named (word_name (quoted_word text)); role = role }) formula notes 0 [] rest h
statement_read target (clause (number_name text) role formula notes) before rest h =
    formula_read target (record (gathered before) { name = named (number_name text); role = role }) formula notes 0 [] rest h
statement_read target (include file selection) before rest h =
    file_read target (gathered before) file 0 0 [] ((spell_selection selection ++ Punct right_round ∷ (Punct dot ∷ [])) ++ rest)
    (selection_read target (record (gathered before) { file = file_text file }) selection 0 0 [] rest h)

-- what the statements leave, between statements
abbrev Left : List ReadStatement → Option Position × Gathered
Left said = (Some start, gathered said)

statements_read : (file : List trees.Statement) (before : List ReadStatement) → Between (Left (before ++ map meaning file)) (gathered before) (spell file)
statements_read [] before = ap Left (sym (append-nil before))
statements_read (statement ∷ more) before =
    statement_read (Left (before ++ meaning statement ∷ map meaning more)) statement before (spell more)
    (subst (λ u. Between (Left u) (gathered (before ++ meaning statement ∷ [])) (spell more)) (append_assoc before (meaning statement ∷ []) (map meaning more)) (statements_read more (before ++ meaning statement ∷ [])))

-- the tokens of a file lead back between statements
pub file_leads : (file : List trees.Statement) → run_from (Some start) (spell file) ≡ Some start
file_leads file = sym (walk-runs (Some start) (gathered []) (spell file)) ∙ ap (λ (w : Option Position × Gathered). w.0) (statements_read file [])

-- and leave what its statements say
pub file_gathered : (file : List trees.Statement) → gather_from (Some start) (gathered []) (spell file) ≡ gathered (map meaning file)
file_gathered file = sym (walk-gathers (Some start) (gathered []) (spell file)) ∙ ap (λ (w : Option Position × Gathered). w.1) (statements_read file [])
