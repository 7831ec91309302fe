-- What a clause reads of real files.
use Rattle.mg_outside.specs.Counting.{Counts}
use Rattle.mg_outside.specs.declared.std_files.StdFiles.{StdFiles}

-- the counts of the reads so far
abbrev pub counts_of : {R : Type 0} → StdFiles R → Counts
counts_of files = files.counts
