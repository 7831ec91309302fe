-- What came is at the end, and what is left of the limit is what the length does not use.
use Rattle.std.proofs.Common.{◌≡◌, ◌+◌, ◌-◌, ◌^◌, vec_len, length}
use Rattle.mg_outside.proofs.KnownBytes.{HasRead}
use Rattle.mg_outside.proofs.std_files.append_all.Given as goal

abbrev pub invariant-reads : goal.invariant-reads
invariant-reads g l = record {
  read : HasRead (g.F.Read.remaining l.fn.file) (g.F.Read.remaining l.file) l.fn.into.items l.into.items;
  used : length l.into.items + l.left ≡ length l.fn.into.items + l.limit;
}

-- a `Vec` has fewer than 2 ^ 63 items
abbrev pub decreases-reads : goal.decreases-reads
decreases-reads g l = 2 ^ 63 - vec_len l.into
