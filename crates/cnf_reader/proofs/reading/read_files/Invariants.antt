use Rattle.std.proofs.Common.{◌≡◌, ◌∷◌}
use Rattle.std.specs.Option.{option_map}
use Rattle.mg_outside.specs.Counting.{OnlyAbsences}
use Rattle.cnf_reader.specs.Frames.{Reached, IsSoundRun}
use Rattle.cnf_reader.proofs.Running.{still}
use Rattle.cnf_reader.proofs.reading.read_files.Given as goal

abbrev pub invariant-statements : goal.invariant-statements
invariant-statements g l = record {
  reached : Reached (g.F.Files.table l.fn.files) (option_map (λ r. r.now) l.root) l.name l.selections l.kept (l.file ∷ l.outer);
  run : IsSoundRun l.kept (l.file ∷ l.outer);
  same : g.F.Files.table l.files ≡ g.F.Files.table l.fn.files;
  counts : OnlyAbsences (g.F.Files.counts l.fn.files) (g.F.Files.counts l.files);
}

abbrev pub decreases-statements : goal.decreases-statements
decreases-statements g l = still l.kept (l.file ∷ l.outer)
