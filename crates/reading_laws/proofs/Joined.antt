-- A problem reads by the rules as the reading has it.
use Rattle.std.proofs.Common.{◌≡◌, ℕ, List, [], ◌∷◌, Option, None, Result, Ok, Err, sym, ap, ◌∙◌, subst}
use Rattle.mg_outside.specs.Reading.{Table}
use Rattle.mg_word.specs.Facts.{InputData}
use Rattle.tptp_lexer.specs.Tokens.{tokens_of}
use Rattle.cnf_reader.specs.declared.fault.ReadFault.{ReadFault}
use Rattle.cnf_reader.specs.declared.kept.Kept.{Kept}
use Rattle.cnf_reader.specs.Statements.{fresh}
use Rattle.cnf_reader.specs.Reading.{World, Opening, opened, none_found, too_long, read_failed, open_first, read_opened, reading_of, source_of, with_file, nothing_kept, most_bytes, most_levels, Reads, StandsFirst, FailsFirst}
use Rattle.reading_laws.specs.Rules.{Opens, ReadsAs, problem_absent, problem_long, problem_fails, problem_reads}
use Rattle.reading_laws.specs.Outcomes.{ReadsByRules, StandsByRules, FailsByRules}
use Rattle.reading_laws.proofs.Opened.{opens-as, opens-so}
use Rattle.reading_laws.proofs.ByRules.{goes-as}
use Rattle.reading_laws.proofs.Whole.{tokens-so}

reads-opened : (world : World) (root : Option (List ℕ)) (name : List ℕ) (opening : Opening) → Opens world most_bytes 0 (name ∷ []) opening → reading_of world root name ≡ read_opened world root name opening
unfolding reading_of
reads-opened world root name opening opens = ap (read_opened world root name) (opens-as world most_bytes 0 (name ∷ []) opening opens)

pub reads-as : (world : World) (root : Option (List ℕ)) (name : List ℕ) (result : Result Kept ReadFault) → ReadsAs world root name result → reading_of world root name ≡ result
reads-as world root name _ (problem_absent opens) = reads-opened world root name none_found opens
reads-as world root name _ (problem_long opens) = reads-opened world root name too_long opens
reads-as world root name _ (problem_fails opens) = reads-opened world root name read_failed opens
reads-as world root name _ (problem_reads found bytes result opens goes) = reads-opened world root name (opened found bytes) opens ∙ goes-as world root most_levels _ _ _ _ _ result goes

pub reads-so : (world : World) (root : Option (List ℕ)) (name : List ℕ) → ReadsAs world root name (reading_of world root name)
reads-so world root name = by (open_first world 0 most_bytes (name ∷ [])) (opens-so world most_bytes (name ∷ []) 0)
  where
    rule : (result : Result Kept ReadFault) → ReadsAs world root name result → ReadsAs world root name (reading_of world root name)
    rule result reads = subst (ReadsAs world root name) (sym (reads-as world root name result reads)) reads

    by : (opening : Opening) → Opens world most_bytes 0 (name ∷ []) opening → ReadsAs world root name (reading_of world root name)
    by (opened found bytes) opens =
        rule _ (problem_reads found bytes _ opens (tokens-so world root most_levels (source_of found bytes (None ∷ []) nothing_kept) (tokens_of bytes).tokens (tokens_of bytes).fault fresh (with_file found bytes nothing_kept)))
    by none_found opens = rule _ (problem_absent opens)
    by too_long opens = rule _ (problem_long opens)
    by read_failed opens = rule _ (problem_fails opens)

pub joined : (world : World) (root : Option (List ℕ)) (name : List ℕ) (result : Result Kept ReadFault) → (ReadsAs world root name result → reading_of world root name ≡ result) × (reading_of world root name ≡ result → ReadsAs world root name result)
joined world root name result = (reads-as world root name result, λ e. subst (ReadsAs world root name) e (reads-so world root name))

pub one-result : (world : World) (root : Option (List ℕ)) (name : List ℕ) (result other : Result Kept ReadFault) → ReadsAs world root name result → ReadsAs world root name other → result ≡ other
one-result world root name result other reads same = sym (reads-as world root name result reads) ∙ reads-as world root name other same

pub inputs-joined : (told : Option Table) (name : List ℕ) (root : Option (List ℕ)) (input : InputData) → (Reads told name root input → ReadsByRules told name root input) × (ReadsByRules told name root input → Reads told name root input)
inputs-joined told name root input = (
  λ r. record { world = r.world; files = r.files; whole = r.whole; kept = r.kept; reading = (joined r.world root name (Ok r.kept)).1 r.reading; is = r.is },
  λ r. record { world = r.world; files = r.files; whole = r.whole; kept = r.kept; reading = (joined r.world root name (Ok r.kept)).0 r.reading; is = r.is },
)

pub faults-joined : (told : Option Table) (name : List ℕ) (root : Option (List ℕ)) (fault : ReadFault) → (StandsFirst told name root fault → StandsByRules told name root fault) × (StandsByRules told name root fault → StandsFirst told name root fault)
faults-joined told name root fault = (
  λ r. record { world = r.world; files = r.files; whole = r.whole; reading = (joined r.world root name (Err fault)).1 r.reading },
  λ r. record { world = r.world; files = r.files; whole = r.whole; reading = (joined r.world root name (Err fault)).0 r.reading },
)

pub failures-joined : (told : Option Table) (name : List ℕ) (root : Option (List ℕ)) (fault : ReadFault) → (FailsFirst told name root fault → FailsByRules told name root fault) × (FailsByRules told name root fault → FailsFirst told name root fault)
failures-joined told name root fault = (
  λ r. record { world = r.world; files = r.files; reading = (joined r.world root name (Err fault)).1 r.reading },
  λ r. record { world = r.world; files = r.files; reading = (joined r.world root name (Err fault)).0 r.reading },
)
