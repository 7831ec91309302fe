-- A file that was opened is taken in as one more.
use Rattle.std.proofs.Common.{◌≡◌, ℕ, ◌≤◌, List, [], ◌∷◌, length, refl, arith, length-append}
use Rattle.cnf_reader.specs.declared.kept.Kept.{Kept}
use Rattle.cnf_reader.specs.Reading.{with_file, most_includes}
use Rattle.cnf_reader.specs.Frames.{FileData}
use Rattle.cnf_reader.specs.Entering.{IsTakenIn, new_file}

-- where this many includes were counted, and no more files than those stood before, it is so behind the file too
pub taken_in : (kept now : Kept) (count : ℕ) (name bytes : List ℕ) (file : FileData) → now ≡ with_file name bytes (record kept { includes = count }) → file ≡ new_file name (length kept.files) bytes → length kept.files ≤ count → count ≤ most_includes
    → IsTakenIn kept now file
taken_in kept now count name bytes file now_is file_is few_files few_includes =
    let longer = length-append kept.files (name ∷ []) in
    rw (now_is, file_is)
    (record { symbols = refl; clauses = refl; files = refl; bytes = refl; number = omega (arith, longer); few_files = omega (arith, longer, few_files); few_includes = few_includes })
