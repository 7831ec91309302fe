-- How the reading of a problem goes on from one statement to the next.
use Rattle.std.proofs.Common.{◌≡◌, ℕ, suc, ◌+◌, ◌*◌, ◌<◌, Bool, true, false, cond, List, ◌∷◌, length, drop, Option, Some, None, Result, Ok, Err, refl, sym, ap, ◌∙◌, arith, subst, nat_eq}
use Rattle.std.proofs.lemmas.Bool.Decides.{nat_tests}
use Rattle.mg_word.specs.declared.clause.Name.{Name}
use Rattle.mg_outside.specs.Reading.{Table}
use Rattle.cnf_reader.specs.declared.fault.ReadFault.{ReadFault}
use Rattle.cnf_reader.specs.declared.fault.ReadKind.{ReadKind}
use Rattle.cnf_reader.specs.declared.kept.Kept.{Kept}
use Rattle.cnf_reader.specs.declared.pending.Asked.{Asked}
use Rattle.cnf_reader.specs.declared.part.Part.TheVariants.{Ended, Clause, Include, Fault}
use Rattle.cnf_reader.specs.Reading.{World, and_then, fault_at, include_in, reading_of, NeverFails, AreTold}
use Rattle.cnf_reader.specs.Parts.{Stays}
use Rattle.cnf_reader.specs.Openings.{Finding, FindsTwo}
use Rattle.cnf_reader.specs.Frames.{FileData, IsSame, rest_of, source_in, Advances, levels_in, resume, SameBelow, Reached, next_read, Enters, Refuses}

pub same_itself : (number : ℕ) (world : World) → SameBelow number world world
same_itself number world = λ k below. (refl, refl)

-- the order of what follows does not matter
pub chain : {A B C : Type 0} (r : Result A ReadFault) (f : A → Result B ReadFault) (g : B → Result C ReadFault) → and_then (and_then r f) g ≡ and_then r (λ a. and_then (f a) g)
chain (Ok a) f g = refl
chain (Err fault) f g = refl

source_same : (selections : List (Option (List Name))) (f g : FileData) → IsSame f g → source_in selections f ≡ source_in selections g
source_same selections f g same =
    let names = sym same.0 in
    let numbers = sym same.1 in
    let bytes = sym same.2 in
    λ i. record { name = names i; number = numbers i; bytes = bytes i; selections = selections }

-- the world with what these two reads find
pub with_reads : {told : Option Table} → World → ℕ → Finding told → Finding told → World
with_reads world number first second = record {
  files = λ k. cond (nat_eq k number) first.files (cond (nat_eq k (suc number)) second.files (world.files k));
  fails = λ k. cond (nat_eq k number) first.fails (cond (nat_eq k (suc number)) second.fails (world.fails k));
}

told_if : (told files : Table) (b : Bool) (other : Table) → files ≡ told → other ≡ told → cond b files other ≡ told
told_if told files true other first second = first
told_if told files false other first second = second

false_if : (b first second : Bool) → first ≡ false → second ≡ false → cond b first second ≡ false
false_if true first second one two = one
false_if false first second one two = two

pub with_told : (told : Option Table) (world : World) (number : ℕ) (first second : Finding told) → AreTold told world → AreTold told (with_reads world number first second)
unfolding with_reads
with_told None world number first second files = tt
with_told (Some told) world number first second files = λ k. told_if told first.files (nat_eq k number) _ first.is_told (told_if told second.files (nat_eq k (suc number)) _ second.is_told (files k))

pub with_whole : (told : Option Table) (world : World) (number : ℕ) (first second : Finding told) → NeverFails world → first.fails ≡ false → second.fails ≡ false → NeverFails (with_reads world number first second)
unfolding with_reads
with_whole told world number first second whole one two = λ k. false_if (nat_eq k number) first.fails _ one (false_if (nat_eq k (suc number)) second.fails _ two (whole k))

apart : (k number : ℕ) → k < number → nat_eq k number ≡ false
apart k number less = grind (arith, nat_tests)

apart_more : (k number : ℕ) → k < number → nat_eq k (suc number) ≡ false
apart_more k number less = grind (arith, nat_tests)

itself : (k : ℕ) → nat_eq k k ≡ true
itself k = grind (arith, nat_tests)

one_more : (k : ℕ) → nat_eq (suc k) k ≡ false
one_more k = grind (arith, nat_tests)

-- worlds that are the same up to these reads are the same before them
pub before_reads : (told : Option Table) (world other : World) (number : ℕ) (first second : Finding told) → SameBelow (number + 2) (with_reads world number first second) other → SameBelow number world other
unfolding with_reads
before_reads told world other number first second same = λ k below.
    let at = same k (omega arith) in
    let here = apart k number below in
    let there = apart_more k number below in
    (rw (here, there) at at.0, rw (here, there) at at.1)

-- and find these
pub at_reads : (told : Option Table) (world other : World) (number : ℕ) (first second : Finding told) → SameBelow (number + 2) (with_reads world number first second) other → FindsTwo other number first second
unfolding with_reads
at_reads told world other number first second same =
    let at = same number (omega arith) in
    let next = same (suc number) (omega arith) in
    (rw (itself number) at at.0, rw (itself number) at at.1, rw (one_more number, itself (suc number)) at next.0, rw (one_more number, itself (suc number)) at next.1)

module _ (told : Option Table) (root : Option (List ℕ)) (name : List ℕ) (selections : List (Option (List Name))) (kept after : Kept) (file next : FileData) (outer : List FileData) (reached : Reached told root name selections kept (file ∷ outer)) where
  -- a clause was read
  pub clause_read : Advances selections kept file Clause after next → Stays kept after → Reached told root name selections after (next ∷ outer)
  clause_read (same, goes) stays = record {
    world = reached.world;
    files = reached.files;
    whole = reached.whole;
    reading = λ other below.
        reached.reading other (subst (λ n. SameBelow (2 * (n + 1)) reached.world other) stays.includes below)
        ∙ ap (λ r. and_then r (λ later. resume other root (drop 1 selections) later outer)) (goes (λ asked early. include_in other root (levels_in outer) (source_in selections file) asked early))
        ∙ ap (λ s. and_then (rest_of (λ asked early. include_in other root (levels_in outer) s asked early) selections after next) (λ later. resume other root (drop 1 selections) later outer)) (source_same selections file next same);
  }

  -- the file was read to its end
  pub file_ended : Advances selections kept file Ended after next → Stays kept after → Reached told root name (drop 1 selections) after outer
  file_ended goes stays = record {
    world = reached.world;
    files = reached.files;
    whole = reached.whole;
    reading = λ other below.
        reached.reading other (subst (λ n. SameBelow (2 * (n + 1)) reached.world other) stays.includes below)
        ∙ ap (λ r. and_then r (λ later. resume other root (drop 1 selections) later outer)) (goes (λ asked early. include_in other root (levels_in outer) (source_in selections file) asked early));
  }

  -- a fault stands in the file
  pub fault_met : (kind : ReadKind) (line column : ℕ) → Advances selections kept file (Fault kind line column) after next → reading_of reached.world root name ≡ fault_at kind next.name line column
  fault_met kind line column goes =
      reached.reading reached.world (same_itself (next_read kept) reached.world)
      ∙ ap (λ r. and_then r (λ later. resume reached.world root (drop 1 selections) later outer)) (goes.2 (λ asked early. include_in reached.world root (levels_in outer) (source_in selections file) asked early)) ∙ ap (λ n. fault_at kind n line column) (sym goes.0.0)

  module _ (asked : Asked) (goes : Advances selections kept file (Include asked) after next) (stays : Stays kept after) where
    -- how the reading goes on at an include
    at_include : (other : World) → SameBelow (next_read after) reached.world other
        → reading_of other root name
        ≡ and_then (include_in other root (levels_in outer) (source_in selections next) asked after) (λ behind. resume other root selections behind (next ∷ outer))
    at_include other below =
        reached.reading other (subst (λ n. SameBelow (2 * (n + 1)) reached.world other) stays.includes below)
        ∙ ap (λ r. and_then r (λ later. resume other root (drop 1 selections) later outer)) (goes.1 (λ early before. include_in other root (levels_in outer) (source_in selections file) early before))
        ∙ chain (include_in other root (levels_in outer) (source_in selections file) asked after) _ _
        ∙ ap (λ s. and_then (include_in other root (levels_in outer) s asked after) (λ behind. and_then (rest_of (λ early before. include_in other root (levels_in outer) s early before) selections behind next) (λ later. resume other root (drop 1 selections) later outer)))
        (source_same selections file next goes.0)

    -- its file was opened
    pub include_entered : (now : Kept) (inner : FileData) → Enters told root after next (length outer) asked now inner → Reached told root name (asked.names ∷ selections) now (inner ∷ next ∷ outer)
    include_entered now inner enters = record {
      world = with_reads reached.world (next_read after) enters.first enters.second;
      files = with_told told reached.world (next_read after) enters.first enters.second reached.files;
      whole = with_whole told reached.world (next_read after) enters.first enters.second reached.whole enters.whole.0 enters.whole.1;
      reading = λ other below.
          let wide : SameBelow (next_read after + 2) (with_reads reached.world (next_read after) enters.first enters.second) other =
          λ k less. below k (omega (arith, enters.includes)) in
          at_include other (before_reads told reached.world other (next_read after) enters.first enters.second wide)
          ∙ ap (λ r. and_then r (λ behind. resume other root selections behind (next ∷ outer))) (enters.gives other (at_reads told reached.world other (next_read after) enters.first enters.second wide) selections);
    }

    -- a fault stands at it
    pub include_refused : (fault : ReadFault) (refuses : Refuses told root after next (length outer) asked fault)
        → (world : World) × AreTold told world × (refuses.first.fails ≡ false → refuses.second.fails ≡ false → NeverFails world) × (reading_of world root name ≡ Err fault)
    include_refused fault refuses =
        let world = with_reads reached.world (next_read after) refuses.first refuses.second in (
          world,
          with_told told reached.world (next_read after) refuses.first refuses.second reached.files,
          with_whole told reached.world (next_read after) refuses.first refuses.second reached.whole,
          at_include world (before_reads told reached.world world (next_read after) refuses.first refuses.second (same_itself (next_read after + 2) world))
              ∙ ap (λ r. and_then r (λ behind. resume world root selections behind (next ∷ outer))) (refuses.gives world (at_reads told reached.world world (next_read after) refuses.first refuses.second (same_itself (next_read after + 2) world)) selections),
        )
