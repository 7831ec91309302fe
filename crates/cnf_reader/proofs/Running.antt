-- What is kept of open files keeps its facts as files are opened, read and closed.
use Rattle.std.proofs.Common.{◌≡◌, ◌≤◌, ◌<◌, ◌+◌, ◌-◌, ◌*◌, ℕ, suc, List, [], ◌∷◌, length, refl, sym, ap, subst, arith, All}
use Rattle.std.proofs.lemmas.List.{length-append}
use Rattle.std.proofs.lemmas.List.Elements.{All-nil, All-cons, All-head, All-tail, All-weaker}
use Rattle.mg_word.specs.Facts.{IsClause}
use Rattle.mg_word.specs.Table.{Symbol}
use Rattle.mg_word.specs.declared.clause.Clause.{Clause}
use Rattle.cnf_reader.specs.Bounds.{IsSmallClause, IsSmallSymbol}
use Rattle.cnf_reader.specs.Entering.{IsTakenIn}
use Rattle.cnf_reader.specs.Frames.{FileData, IsSame, IsSoundRun, left_in, left_in_all}
use Rattle.cnf_reader.specs.Led.{Spends}
use Rattle.cnf_reader.specs.Parts.{Stays}
use Rattle.cnf_reader.specs.Reading.{nothing_kept, most_bytes}
use Rattle.cnf_reader.specs.Sound.{IsSoundKept}
use Rattle.cnf_reader.specs.declared.kept.Kept.{Kept}
use Rattle.cnf_reader.proofs.Left.{few_left}

-- a clause keeps its facts where there are more files
with_files : (table : List Symbol) (few more : ℕ) → few ≤ more → (clause : Clause) → IsClause table few clause → IsClause table more clause
with_files table few more less clause facts = record {
  fitting = facts.fitting;
  atoms = facts.atoms;
  occurring = facts.occurring;
  choices = facts.choices;
  positives = facts.positives;
  positions = facts.positions;
  place = let place = facts.place in omega (arith, place, less);
  literals = facts.literals;
  variables = facts.variables;
}

-- what is kept with one more file
sound_with_file : (kept now : Kept) (file : FileData) → IsSoundKept kept → IsTakenIn kept now file → IsSoundKept now
sound_with_file kept now file sound taken =
    let size : length now.files ≡ suc (length kept.files) = let e = ap (λ (l : List (List ℕ)). length l) taken.files in let f = length-append kept.files (file.name ∷ []) in omega (arith, e, f) in
    record {
      named = rw taken.symbols sound.named;
      different = rw taken.symbols sound.different;
      arities = rw taken.symbols sound.arities;
      each = rw (taken.symbols, taken.clauses) (All-weaker (IsClause kept.symbols (length kept.files)) (IsClause kept.symbols (length now.files)) (with_files kept.symbols (length kept.files) (length now.files) (omega (arith, size))) kept.clauses sound.each);
      small = rw taken.clauses sound.small;
      few = rw taken.clauses sound.few;
    }

sound_nothing : IsSoundKept nothing_kept
sound_nothing = record { named = refl; different = λ i j d below within. absurd (omega arith); arities = All-nil IsSmallSymbol; each = All-nil (IsClause [] 0); small = All-nil IsSmallClause; few = omega arith }

-- the problem file was opened
pub run_begun : (now : Kept) (file : FileData) → IsTakenIn nothing_kept now file → length file.bytes ≤ most_bytes → IsSoundRun now (file ∷ [])
run_begun now file taken within = record {
  sound = sound_with_file nothing_kept now file sound_nothing taken;
  room =
      let none = ap (λ (l : List Symbol). length l) taken.symbols in let left = few_left file.bytes file.cursor in let bytes = taken.bytes in
      omega (arith, none, left, bytes);
  bytes = let bytes = taken.bytes in omega (arith, bytes, within);
  numbers = All-cons (λ (f : FileData). f.number < length now.files) file [] taken.number (All-nil (λ (f : FileData). f.number < length now.files));
  few_files = taken.few_files;
  few_includes = taken.few_includes;
}

module _ (kept after : Kept) (f g : FileData) (outer : List FileData) (run : IsSoundRun kept (f ∷ outer)) (stays : Stays kept after) (sound : IsSoundKept after) (same : IsSame f g) (paid : Spends kept (left_in f) after (left_in g)) where
  numbers_stay : All (λ (h : FileData). h.number < length after.files) (g ∷ outer)
  numbers_stay =
      let all : All (λ (h : FileData). h.number < length after.files) (f ∷ outer) = rw stays.files run.numbers in
      All-cons (λ (h : FileData). h.number < length after.files) g outer (rw same.1 (All-head (λ (h : FileData). h.number < length after.files) f outer all)) (All-tail (λ (h : FileData). h.number < length after.files) f outer all)

  -- a statement was read
  pub run_on : IsSoundRun after (g ∷ outer)
  run_on = record {
    sound = sound;
    room = let room = run.room in let spent = paid.symbols in let bytes = stays.bytes in omega (arith, room, spent, bytes);
    bytes = let bytes = stays.bytes in let few = run.bytes in omega (arith, bytes, few);
    numbers = numbers_stay;
    few_files = let files = ap (λ (l : List (List ℕ)). length l) stays.files in let includes = stays.includes in let few = run.few_files in omega (arith, files, includes, few);
    few_includes = let includes = stays.includes in let few = run.few_includes in omega (arith, includes, few);
  }

-- the innermost file was read to its end
pub run_ended : (kept after : Kept) (f : FileData) (outer : List FileData) → IsSoundRun kept (f ∷ outer) → after ≡ kept → IsSoundRun after outer
run_ended kept after f outer run is = subst (λ (k : Kept). IsSoundRun k outer) (sym is) (record {
  sound = run.sound;
  room = let room = run.room in omega (arith, room);
  bytes = run.bytes;
  numbers = All-tail (λ (h : FileData). h.number < length kept.files) f outer run.numbers;
  few_files = run.few_files;
  few_includes = run.few_includes;
})

-- the file of an include was opened
pub run_entered : (kept now : Kept) (inner : FileData) (files : List FileData) → IsSoundRun kept files → IsTakenIn kept now inner → now.bytes ≤ most_bytes → IsSoundRun now (inner ∷ files)
run_entered kept now inner files run taken fits =
    let size : length now.files ≡ suc (length kept.files) = let e = ap (λ (l : List (List ℕ)). length l) taken.files in let f = length-append kept.files (inner.name ∷ []) in omega (arith, e, f) in
    record {
      sound = sound_with_file kept now inner run.sound taken;
      room =
          let room = run.room in let none = ap (λ (l : List Symbol). length l) taken.symbols in let left = few_left inner.bytes inner.cursor in let bytes = taken.bytes in
          omega (arith, room, none, left, bytes);
      bytes = fits;
      numbers =
          All-cons (λ (h : FileData). h.number < length now.files) inner files taken.number
          (All-weaker (λ (h : FileData). h.number < length kept.files) (λ (h : FileData). h.number < length now.files) (λ h below. omega (arith, below, size)) files run.numbers);
      few_files = taken.few_files;
      few_includes = taken.few_includes;
    }

-- how many tokens and files are still to be read, however many includes may come
abbrev pub still : Kept → List FileData → ℕ
still kept files = left_in_all files + (16777216 - kept.bytes) + 2 * (256 - kept.includes) + length files

module _ (kept after : Kept) (f g : FileData) (outer : List FileData) (stays : Stays kept after) where
  -- fewer, where a token was read
  pub still_on : Spends kept (left_in f) after (left_in g) → still after (g ∷ outer) < still kept (f ∷ outer)
  still_on paid = let less = paid.fewer in let bytes = stays.bytes in let includes = stays.includes in omega (arith, less, bytes, includes)

  -- fewer, where a file was closed
  pub still_ended : after ≡ kept → still after outer < still kept (f ∷ outer)
  still_ended is = let bytes = stays.bytes in let includes = stays.includes in omega (arith, bytes, includes)

  -- fewer, where the file of an include was opened behind its tokens
  pub still_entered : (now : Kept) (inner : FileData) → Spends kept (left_in f) after (left_in g) → now.includes ≡ after.includes + 1 → now.includes ≤ 256 → IsTakenIn after now inner → now.bytes ≤ most_bytes
      → still now (inner ∷ g ∷ outer) < still kept (f ∷ outer)
  still_entered now inner paid includes_are few_includes taken fits =
      let less = paid.fewer in
      let bytes = stays.bytes in
      let includes = stays.includes in
      let left = few_left inner.bytes inner.cursor in
      let more = taken.bytes in
      omega (arith, less, bytes, includes, left, more, fits, includes_are, few_includes)
