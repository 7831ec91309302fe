-- The exact rule of files in memory.
use Rattle.std.specs.Prelude.{ℕ, nat_eq, Bool, List, map, if◌then◌else◌}
use Rattle.std.specs.List.{find, list_any}
use Rattle.std.specs.Option.{option_map}
use Rattle.std.specs.Str.{bytes_eq}
use Rattle.std.specs.declared.vec.Vec.{Vec}
use Rattle.std.specs.declared.alloc.Global.{Global}
use Rattle.mg_outside.specs.Causes.{one_more}
use Rattle.mg_outside.specs.Counting.{Counts, no_counts, counted}
use Rattle.mg_outside.specs.Reading.{Table, told_answer}
use Rattle.mg_outside.specs.declared.files.ReadAnswer.{ReadAnswer}
use Rattle.mg_outside.specs.declared.files.ReadAnswer.TheVariants.{Failed}

-- a file: its name and its bytes
pub record NamedFile : Type 0 where
  pub name : List ℕ
  pub bytes : List ℕ

-- a name beside the bytes that a `Vec` holds
abbrev pub named_file : List ℕ × Vec ℕ Global → NamedFile
named_file pair = record { name = pair.0; bytes = pair.1.items }

-- the files of a list of names and bytes
abbrev pub named_files : List (List ℕ × Vec ℕ Global) → List NamedFile
named_files pairs = map named_file pairs

-- the bytes of the first file with this name
abbrev pub file_named : List NamedFile → Table
file_named files name = option_map (λ file. file.bytes) (find (λ file. bytes_eq file.name name) files)

-- the files, the numbers of the calls that fail, the calls so far and the counts
pub record FilesState : Type 0 where
  pub files : List NamedFile
  pub failing : List ℕ
  pub calls : ℕ
  pub counts : Counts

-- files that were not read yet
abbrev pub new_files : List NamedFile → List ℕ → FilesState
new_files files failing = record { files = files; failing = failing; calls = 0; counts = no_counts }

-- whether the next call is one of those that fail
abbrev pub read_fails : FilesState → Bool
read_fails state = list_any (λ call. nat_eq call (one_more state.calls)) state.failing

-- what the next call answers, if memory lasts
abbrev pub read_answer : FilesState → List ℕ → ℕ → ReadAnswer
read_answer state name limit = if read_fails state then Failed else told_answer (file_named state.files name) limit

-- the state after the next call
abbrev pub after_read : FilesState → List ℕ → ℕ → FilesState
after_read state name limit = record state {
  calls = one_more state.calls;
  counts = counted (read_answer state name limit) state.counts;
}
