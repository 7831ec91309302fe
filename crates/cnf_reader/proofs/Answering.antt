-- What was met when the reading ends: an input, or a fault with its cause.
use Rattle.std.proofs.Common.{◌≡◌, ℕ, ◌+◌, Bool, true, false, true≢false, List, [], ◌∷◌, Option, Some, None, Result, Ok, Err, refl, sym, ap, ◌∙◌, arith, subst, length}
use Rattle.mg_outside.specs.Reading.{Table}
use Rattle.mg_word.specs.declared.clause.Name.{Name}
use Rattle.cnf_reader.specs.declared.fault.ReadFault.{ReadFault}
use Rattle.cnf_reader.specs.declared.fault.ReadFault.TheVariants.{At, NoMemory}
use Rattle.cnf_reader.specs.declared.fault.ReadKind.{ReadKind}
use Rattle.cnf_reader.specs.declared.fault.ReadKind.TheVariants.{IncludeAbsent, TooLong, ProblemAbsent, Files}
use Rattle.cnf_reader.specs.declared.kept.Kept.{Kept}
use Rattle.cnf_reader.specs.declared.pending.Asked.{Asked}
use Rattle.cnf_reader.specs.declared.part.Part.TheVariants.{Include, Fault}
use Rattle.cnf_grammar.specs.Table.{start}
use Rattle.cnf_reader.specs.Statements.{fresh}
use Rattle.cnf_reader.specs.Reading.{World, AreTold, NeverFails, reading_of, read_opened, source_of, include_in, and_then, most_levels, with_file, nothing_kept, StandsBy, StandsFirst, IsFault, read_tokens}
use Rattle.cnf_reader.specs.Parts.{Stays, is_of_text}
use Rattle.cnf_reader.specs.Frames.{FileData, Advances, Reached, SameBelow, ReadsKept}
use Rattle.cnf_reader.specs.Entering.{IsWhole, IsNotEntered, IsBegun, IsNotBegun, FaultIs}
use Rattle.cnf_reader.proofs.Entered.{all_left}
use Rattle.cnf_reader.proofs.Reaching.{fault_met, include_refused, with_reads, with_told, with_whole, at_reads, same_itself}

-- a fault that a world gives, and whether a read failed in it
stands : (told : Option Table) (name : List ℕ) (root : Option (List ℕ)) (kind : ReadKind) (fault : ReadFault) (world : World) (first second : Bool) → AreTold told world → (first ≡ false → second ≡ false → NeverFails world) → IsWhole kind first second
    → reading_of world root name ≡ Err fault → StandsBy kind told name root fault
stands told name root Files fault world first second files unless whole reading = record { world = world; files = files; reading = reading }
stands told name root kind fault world first second files unless whole reading = record { world = world; files = files; whole = unless whole.0 whole.1; reading = reading }

text_fault : (told : Option Table) (name : List ℕ) (root : Option (List ℕ)) (kind : ReadKind) (fault : ReadFault) → is_of_text kind ≡ true → StandsFirst told name root fault → StandsBy kind told name root fault
text_fault told name root Files fault text first = absurd (true≢false (sym text))
text_fault told name root ProblemAbsent fault text first = absurd (true≢false (sym text))
text_fault told name root IncludeAbsent fault text first = absurd (true≢false (sym text))
text_fault told name root TooLong fault text first = absurd (true≢false (sym text))
text_fault told name root kind fault text first = first

module _ (told : Option Table) (root : Option (List ℕ)) (name : List ℕ) (selections : List (Option (List Name))) (kept after : Kept) (file next : FileData) (outer : List FileData) (reached : Reached told root name selections kept (file ∷ outer)) where
  -- a fault at a token of a file
  pub text_met : (kind : ReadKind) (line column : ℕ) (fault : ReadFault) → Advances selections kept file (Fault kind line column) after next → FaultIs kind next.name line column [] fault → IsFault told name root fault
  text_met kind line column NoMemory goes is = tt
  text_met kind line column (At wanted where_is at_line at_column subject) goes is =
      subst (λ f. IsFault told name root f) (sym is)
      (text_fault told name root kind _ goes.1
      (record { world = reached.world; files = reached.files; whole = reached.whole; reading = fault_met told root name selections kept after file next outer reached kind line column goes }))

  -- a fault at an include
  pub include_met : (asked : Asked) (fault : ReadFault) → Advances selections kept file (Include asked) after next → Stays kept after → IsNotEntered told root after next (length outer) asked fault
      → IsFault told name root fault
  include_met asked NoMemory goes stays refused = tt
  include_met asked (At kind where_is line column subject) goes stays refused =
      let met = include_refused told root name selections kept after file next outer reached asked goes stays (At kind where_is line column subject) refused.refuses in
      stands told name root kind (At kind where_is line column subject) met.0 refused.refuses.first.fails refused.refuses.second.fails met.1 met.2 refused.whole met.3

-- the last file was read to its end
pub all_read : (told : Option Table) (root : Option (List ℕ)) (name : List ℕ) (selections : List (Option (List Name))) (kept : Kept) → Reached told root name selections kept [] → ReadsKept told name root kept
all_read told root name selections kept reached = record {
  world = reached.world;
  files = reached.files;
  whole = reached.whole;
  reading = reached.reading reached.world (same_itself _ reached.world);
}

-- the world of files that are told, where no read fails
calm : (told : Option Table) → (world : World) × AreTold told world × NeverFails world
calm None = (record { files = λ number name. None; fails = λ number. false }, tt, λ number. refl)
calm (Some told) = (record { files = λ number. told; fails = λ number. false }, λ number. refl, λ number. refl)

-- where the problem file was opened, the reading goes on with it
pub begun_reaches : (told : Option Table) (root : Option (List ℕ)) (name : List ℕ) (now : Kept) (file : FileData) → IsBegun told name nothing_kept now file → Reached told root name (None ∷ []) now (file ∷ [])
unfolding reading_of
begun_reaches told root name now file begun =
    let first = calm told in
    record {
      world = with_reads first.0 0 begun.first begun.second;
      files = with_told told first.0 0 begun.first begun.second first.1;
      whole = with_whole told first.0 0 begun.first begun.second first.2 begun.whole.0 begun.whole.1;
      reading = λ other below.
          let few : now.includes ≡ 0 = ap (λ (k : Kept). k.includes) begun.now_is in
          let wide : SameBelow (0 + 2) (with_reads first.0 0 begun.first begun.second) other = λ k less. below k (omega (arith, few)) in
          ap (λ o. read_opened other root name o) (begun.gives other (at_reads told first.0 other 0 begun.first begun.second wide))
          ∙ ap (λ left. read_tokens (λ asked kept. include_in other root most_levels (source_of begun.found begun.bytes (None ∷ []) nothing_kept) asked kept) (source_of begun.found begun.bytes (None ∷ []) nothing_kept) fresh (with_file begun.found begun.bytes nothing_kept) left.tokens left.fault) (sym (all_left begun.bytes))
          ∙ rw (begun.file_is, begun.now_is) (whole_result _);
    }
  where
    whole_result : (r : Result Kept ReadFault) → r ≡ and_then r (λ after. Ok after)
    whole_result (Ok after) = refl
    whole_result (Err fault) = refl

-- where it was not, that fault stands there
pub not_begun : (told : Option Table) (root : Option (List ℕ)) (name : List ℕ) (fault : ReadFault) → IsNotBegun told name fault → IsFault told name root fault
unfolding reading_of
not_begun told root name NoMemory refused = tt
not_begun told root name (At kind where_is line column subject) refused =
    let first = calm told in
    let world = with_reads first.0 0 refused.first refused.second in
    stands told name root kind (At kind where_is line column subject) world refused.first.fails refused.second.fails (with_told told first.0 0 refused.first refused.second first.1) (with_whole told first.0 0 refused.first refused.second first.2) refused.whole
    (refused.gives world (at_reads told first.0 world 0 refused.first refused.second (same_itself (0 + 2) world)) root)
