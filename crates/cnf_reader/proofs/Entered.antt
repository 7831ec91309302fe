-- What was opened for an include is what the definition opens.
use Rattle.std.proofs.Common.{◌≡◌, ℕ, zero, suc, ◌-◌, ◌<◌, ◌≤◌, true, false, List, [], ◌∷◌, length, Option, Err, String, Global, string_bytes, refl, sym, ap, ◌∙◌, arith, subst, nat_le}
use Rattle.std.proofs.lemmas.Bool.Decides.{nat_tests}
use Rattle.mg_word.specs.declared.clause.Name.{Name}
use Rattle.mg_outside.specs.Reading.{Table}
use Rattle.tptp_lexer.specs.Tokens.{start_cursor, left_of, tokens_of}
use Rattle.tptp_lexer.specs.Spots.{passed}
use Rattle.cnf_grammar.specs.Table.{start}
use Rattle.cnf_reader.specs.declared.fault.ReadFault.{ReadFault}
use Rattle.cnf_reader.specs.declared.fault.ReadFault.TheVariants.{At, NoMemory}
use Rattle.cnf_reader.specs.declared.fault.ReadKind.{ReadKind}
use Rattle.cnf_reader.specs.declared.fault.ReadKind.TheVariants.{TooManyIncludes, IncludeDepth, IncludeAbsent, TooLong, Files, ProblemAbsent}
use Rattle.cnf_reader.specs.declared.kept.Kept.{Kept}
use Rattle.cnf_reader.specs.declared.pending.Asked.{Asked}
use Rattle.cnf_reader.specs.declared.opening.Found.{Found}
use Rattle.cnf_reader.specs.declared.opening.Found.TheVariants.{Opened, Absent, TooLong as FoundTooLong, Failed}
use Rattle.cnf_reader.specs.Names.{tries}
use Rattle.cnf_reader.specs.Statements.{fresh}
use Rattle.cnf_reader.specs.Reading.{World, Source, Opening, read_tokens, read_source, source_of, with_file, with_include, fault_at, most_bytes, open_first, read_opened, include_in, follow, opening_of}
use Rattle.cnf_reader.specs.Openings.{FindsTwo, IsOpening, found_seen}
use Rattle.cnf_reader.specs.Frames.{FileData, Enters, source_in, next_read}
use Rattle.std.specs.declared.vec.Vec.{Vec}
use Rattle.cnf_reader.proofs.Tries.{nothing_found}
use Rattle.cnf_reader.specs.Entering.{IsWhole, new_file, RefusesBy, IsNotEntered, FaultIs, IsBegun, IsNotBegun}

-- at the start of a text all of its tokens are left
pub all_left : (bytes : List ℕ) → left_of bytes start_cursor ≡ tokens_of bytes
unfolding passed
all_left [] = refl
all_left (byte ∷ bytes) = refl

levels_more : (depth : ℕ) → depth < 15 → 15 - depth ≡ suc (15 - suc depth)
levels_more depth deep = omega arith

levels_none : (depth : ℕ) → 15 ≤ depth → 15 - depth ≡ 0
levels_none depth deep = omega arith

pub many_refused : (world : World) (root : Option (List ℕ)) (source : Source) (asked : Asked) (kept : Kept) (levels : ℕ) → nat_le 256 kept.includes ≡ true → include_in world root levels source asked kept ≡ fault_at TooManyIncludes source.name asked.line asked.column
unfolding include_in
many_refused world root source asked kept zero full = rw full refl
many_refused world root source asked kept (suc levels) full = rw full refl

pub deep_refused : (world : World) (root : Option (List ℕ)) (source : Source) (asked : Asked) (kept : Kept) → nat_le 256 kept.includes ≡ false → include_in world root 0 source asked kept ≡ fault_at IncludeDepth source.name asked.line asked.column
unfolding include_in
deep_refused world root source asked kept few = rw few refl

-- what follows the tries for an include
followed : (world : World) (root : Option (List ℕ)) (levels : ℕ) (source : Source) (asked : Asked) (kept : Kept) (opening : Opening) → nat_le 256 kept.includes ≡ false → opening_of world root source asked kept ≡ opening
    → include_in world root (suc levels) source asked kept ≡ follow opening source asked kept (λ deeper after. read_source (λ further more. include_in world root levels deeper further more) deeper after)
unfolding include_in
followed world root levels source asked kept opening few opens = rw few (ap (λ o. follow o source asked kept (λ deeper after. read_source (λ further more. include_in world root levels deeper further more) deeper after)) opens)

module _ (told : Option Table) (root : Option (List ℕ)) (kept : Kept) (file : FileData) (depth : ℕ) (asked : Asked) where
  -- a fault for which no file is looked at
  without_files : (kind : ReadKind) (fault : ReadFault) → IsWhole kind (nothing_found told).0.fails (nothing_found told).0.fails → ((world : World) (selections : List (Option (List Name))) → include_in world root (15 - depth) (source_in selections file) asked kept ≡ Err fault)
      → RefusesBy told root kept file depth asked kind fault
  without_files kind fault whole gives = record {
    refuses = record { first = (nothing_found told).0; second = (nothing_found told).0; gives = λ world finds selections. gives world selections };
    whole = whole;
  }

  pub too_many : (fault : ReadFault) → 256 ≤ kept.includes → FaultIs TooManyIncludes file.name asked.line asked.column [] fault → IsNotEntered told root kept file depth asked fault
  too_many NoMemory many is = tt
  too_many (At kind name line column subject) many is =
      let full : nat_le 256 kept.includes ≡ true = grind (arith, nat_tests) in
      subst (λ f. IsNotEntered told root kept file depth asked f) (sym is)
      (without_files TooManyIncludes _ ((nothing_found told).1, (nothing_found told).1) (λ world selections. many_refused world root (source_in selections file) asked kept (15 - depth) full))

  pub too_deep : (fault : ReadFault) → kept.includes < 256 → 15 ≤ depth → FaultIs IncludeDepth file.name asked.line asked.column [] fault → IsNotEntered told root kept file depth asked fault
  too_deep NoMemory few deep is = tt
  too_deep (At kind name line column subject) few deep is =
      let room : nat_le 256 kept.includes ≡ false = grind (arith, nat_tests) in
      subst (λ f. IsNotEntered told root kept file depth asked f) (sym is)
      (without_files IncludeDepth _ ((nothing_found told).1, (nothing_found told).1)
      (λ world selections. subst (λ n. include_in world root n (source_in selections file) asked kept ≡ fault_at IncludeDepth file.name asked.line asked.column) (sym (levels_none depth deep)) (deep_refused world root (source_in selections file) asked kept room)))

  module _ (names : List (List ℕ)) (limit : ℕ) (names_are : names ≡ tries root file.name asked.file) (limit_is : limit ≡ most_bytes - kept.bytes) (few : kept.includes < 256) (deep : depth < 15) where
    -- what the tries give in every such world
    opens : (found : Found) (opening : IsOpening told names limit found) (world : World) → FindsTwo world (next_read kept) opening.first opening.second → (selections : List (Option (List Name)))
        → opening_of world root (source_in selections file) asked kept ≡ found_seen found
    opens found opening world finds selections = sym (ap (λ l. open_first world (next_read kept) l (tries root file.name asked.file)) limit_is) ∙ sym (ap (λ l. open_first world (next_read kept) limit l) names_are) ∙ opening.gives (next_read kept) world finds

    follows : (found : Found) (opening : IsOpening told names limit found) (world : World) → FindsTwo world (next_read kept) opening.first opening.second → (selections : List (Option (List Name)))
        → include_in world root (15 - depth) (source_in selections file) asked kept
        ≡ follow (found_seen found) (source_in selections file) asked kept (λ deeper after. read_source (λ further more. include_in world root (15 - suc depth) deeper further more) deeper after)
    follows found opening world finds selections =
        let room : nat_le 256 kept.includes ≡ false = grind (arith, nat_tests) in
        ap (λ n. include_in world root n (source_in selections file) asked kept) (levels_more depth deep)
        ∙ followed world root (15 - suc depth) (source_in selections file) asked kept (found_seen found) room (opens found opening world finds selections)

    pub not_there : (fault : ReadFault) → IsOpening told names limit Absent → FaultIs IncludeAbsent file.name asked.line asked.column asked.file fault → IsNotEntered told root kept file depth asked fault
    not_there NoMemory opening is = tt
    not_there (At kind name line column subject) opening is =
        subst (λ f. IsNotEntered told root kept file depth asked f) (sym is)
        (record { refuses = record { first = opening.first; second = opening.second; gives = follows Absent opening }; whole = opening.whole })

    pub too_large : (fault : ReadFault) → IsOpening told names limit FoundTooLong → FaultIs TooLong file.name asked.line asked.column [] fault → IsNotEntered told root kept file depth asked fault
    too_large NoMemory opening is = tt
    too_large (At kind name line column subject) opening is =
        subst (λ f. IsNotEntered told root kept file depth asked f) (sym is)
        (record { refuses = record { first = opening.first; second = opening.second; gives = follows FoundTooLong opening }; whole = opening.whole })

    pub failed : (fault : ReadFault) → IsOpening told names limit Failed → FaultIs Files file.name asked.line asked.column [] fault → IsNotEntered told root kept file depth asked fault
    failed NoMemory opening is = tt
    failed (At kind name line column subject) opening is =
        subst (λ f. IsNotEntered told root kept file depth asked f) (sym is)
        (record { refuses = record { first = opening.first; second = opening.second; gives = follows Failed opening }; whole = tt })

    pub entered : (text : String Global) (bytes : Vec ℕ Global) (after : Kept) (inner : FileData) → IsOpening told names limit (Opened text bytes) → kept.bytes ≤ most_bytes → after ≡ with_file (string_bytes text) bytes.items (with_include kept)
        → inner ≡ new_file (string_bytes text) (length kept.files) bytes.items → Enters told root kept file depth asked after inner
    entered text bytes after inner opening small after_is inner_is = record {
      first = opening.first;
      second = opening.second;
      whole = opening.whole;
      includes = ap (λ (k : Kept). k.includes) after_is;
      deep = deep;
      fits = let count = ap (λ (k : Kept). k.bytes) after_is in omega (arith, count, opening.fits, limit_is);
      gives = λ world finds selections.
          follows (Opened text bytes) opening world finds selections
          ∙ ap (λ left. read_tokens (λ further more. include_in world root (15 - suc depth) (source_of (string_bytes text) bytes.items (asked.names ∷ selections) (with_include kept)) further more) (source_of (string_bytes text) bytes.items (asked.names ∷ selections) (with_include kept)) fresh (with_file (string_bytes text) bytes.items (with_include kept)) left.tokens left.fault) (sym (all_left bytes.items))
          ∙ rw (inner_is, after_is) refl;
    }

module _ (told : Option Table) (problem : List ℕ) where
  pub begun : (found : String Global) (bytes : Vec ℕ Global) (kept after : Kept) (file : FileData) → IsOpening told (problem ∷ []) most_bytes (Opened found bytes) → after ≡ with_file (string_bytes found) bytes.items kept
      → file ≡ new_file (string_bytes found) (length kept.files) bytes.items → IsBegun told problem kept after file
  begun found bytes kept after file opening after_is file_is = record {
    first = opening.first;
    second = opening.second;
    whole = opening.whole;
    found = string_bytes found;
    bytes = bytes.items;
    within = opening.fits;
    gives = λ world finds. opening.gives 0 world finds;
    now_is = after_is;
    file_is = file_is;
  }

  pub begins_absent : (fault : ReadFault) → IsOpening told (problem ∷ []) most_bytes Absent → FaultIs ProblemAbsent problem 1 1 [] fault → IsNotBegun told problem fault
  begins_absent NoMemory opening is = tt
  begins_absent (At kind name line column subject) opening is =
      subst (λ f. IsNotBegun told problem f) (sym is)
      (record { first = opening.first; second = opening.second; gives = λ world finds root. ap (λ o. read_opened world root problem o) (opening.gives 0 world finds); whole = opening.whole })

  pub begins_too_long : (fault : ReadFault) → IsOpening told (problem ∷ []) most_bytes FoundTooLong → FaultIs TooLong problem 1 1 [] fault → IsNotBegun told problem fault
  begins_too_long NoMemory opening is = tt
  begins_too_long (At kind name line column subject) opening is =
      subst (λ f. IsNotBegun told problem f) (sym is)
      (record { first = opening.first; second = opening.second; gives = λ world finds root. ap (λ o. read_opened world root problem o) (opening.gives 0 world finds); whole = opening.whole })

  pub begins_failed : (fault : ReadFault) → IsOpening told (problem ∷ []) most_bytes Failed → FaultIs Files problem 1 1 [] fault → IsNotBegun told problem fault
  begins_failed NoMemory opening is = tt
  begins_failed (At kind name line column subject) opening is =
      subst (λ f. IsNotBegun told problem f) (sym is)
      (record { first = opening.first; second = opening.second; gives = λ world finds root. ap (λ o. read_opened world root problem o) (opening.gives 0 world finds); whole = tt })
