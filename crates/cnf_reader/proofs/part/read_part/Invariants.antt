use Rattle.std.proofs.Common.{◌≡◌}
use Rattle.tptp_lexer.specs.Tokens.{left_of, IsAt}
use Rattle.cnf_reader.specs.Keeping.{is_full}
use Rattle.cnf_reader.specs.Led.{IsLed, count_left}
use Rattle.cnf_reader.specs.Parts.{IsOpen}
use Rattle.cnf_reader.specs.Statements.{fresh}
use Rattle.cnf_reader.proofs.Going.{Reaches}
use Rattle.cnf_reader.proofs.part.read_part.Given as goal

abbrev pub invariant-loop-found : goal.invariant-loop-found
invariant-loop-found l = record {
  at : IsAt l.bytes l.cursor;
  same : l.kept ≡ l.fn.kept;
  few : IsOpen l.pending.position;
  led : IsLed (is_full l.fn.kept) l.selections (count_left l.bytes l.fn.cursor) l.pending (count_left l.bytes l.cursor);
  reaches : Reaches l.number l.bytes l.selections l.fn.kept fresh (left_of l.bytes l.fn.cursor) l.pending (left_of l.bytes l.cursor);
}

-- how many tokens are left
abbrev pub decreases-loop-found : goal.decreases-loop-found
decreases-loop-found l = count_left l.bytes l.cursor
