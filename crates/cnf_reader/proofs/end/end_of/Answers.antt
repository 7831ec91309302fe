use Rattle.std.proofs.Common.{◌+◌, ap, arith, get_or, ◌==◌}
use Rattle.tptp_lexer.specs.declared.spot.Spot.{Spot}
use Rattle.cnf_reader.proofs.Ends.{next_spot, passed_all, same_default, bounded}
use Rattle.cnf_reader.proofs.end.end_of.Goals as goal

pub loop-byte-preserved : goal.loop-byte-preserved
loop-byte-preserved c =
    let byte = get_or c.args.bytes.now c.loop-byte.byte-index 0 in
    record {
      passed =
          next_spot c.args.bytes.now c.loop-byte.byte-index c.loop-byte.line c.loop-byte.column c.past-next_line.result.0 c.past-next_line.result.1 byte c.loop-byte-test.true
          (same_default c.args.bytes.now c.loop-byte.byte-index 0 byte c.loop-byte-test.true) c.loop-byte.invariant.passed c.past-next_line.ensures.line c.past-next_line.ensures.column;
      lines = bounded (byte == 10) c.past-next_line.result.0 (c.loop-byte.line + 1) c.loop-byte.line (c.loop-byte.byte-index + 1) c.past-next_line.ensures.line (omega arith) (omega arith);
      columns = bounded (byte == 10) c.past-next_line.result.1 1 (c.loop-byte.column + 1) (c.loop-byte.byte-index + 1) c.past-next_line.ensures.column (omega arith) (omega arith);
    }

pub returns-clause-line : goal.returns-clause-line
returns-clause-line c =
    let place = passed_all c.args.bytes.now c.loop-byte.byte-index (record { offset = c.loop-byte.byte-index; line = c.loop-byte.line; column = c.loop-byte.column }) (omega arith) c.loop-byte.invariant.passed in
    ap (λ (s : Spot). s.line) place

pub returns-clause-column : goal.returns-clause-column
returns-clause-column c =
    let place = passed_all c.args.bytes.now c.loop-byte.byte-index (record { offset = c.loop-byte.byte-index; line = c.loop-byte.line; column = c.loop-byte.column }) (omega arith) c.loop-byte.invariant.passed in
    ap (λ (s : Spot). s.column) place
