-- An interrupted read takes nothing.
use Rattle.std.specs.Io.KnownBytes.{Keeps}
use Rattle.mg_outside.proofs.std_files.read_some.Given as goal

abbrev pub invariant-tries : goal.invariant-tries
invariant-tries g l = Keeps (g.F.Read.remaining l.fn.file) (g.F.Read.remaining l.file)
