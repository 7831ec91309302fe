use Rattle.std.proofs.Common.{refl, sym, ap, ◌∙◌, arith, Ok, Some, None}
use Rattle.tptp_lexer.specs.Tokens.{left_of}
use Rattle.cnf_grammar.specs.declared.state.State.TheVariants.{ClauseClosed, IncludeClosed}
use Rattle.cnf_reader.specs.Keeping.{is_full}
use Rattle.cnf_reader.specs.Led.{count_left}
use Rattle.cnf_reader.specs.Statements.{fresh}
use Rattle.cnf_reader.proofs.Going.{lex_fault, the_end, token_fault, token_within, clause_ends, include_ends}
use Rattle.cnf_reader.proofs.Parting.{few_tokens, steps, step_on, step_ready, step_room, step_items, step_pays, step_asks}
use Rattle.cnf_reader.proofs.Readying.{led_fresh, led_roomy}
use Rattle.cnf_reader.proofs.part.read_part.Goals as goal

pub loop-found-init : goal.loop-found-init
loop-found-init c = record {
  at = c.requires.at;
  same = refl;
  few = rw c.fresh-pending.ensures (omega arith);
  led = rw c.fresh-pending.ensures (led_fresh (is_full c.args.kept.now) c.args.selections.now (count_left c.args.bytes.now c.args.cursor.now));
  reaches = rw c.fresh-pending.ensures (λ lower name. refl);
}

pub next_token-requires-clause-at : goal.next_token-requires-clause-at
next_token-requires-clause-at c = c.loop-found.invariant.at

pub returns-in-Err-clause-part : goal.returns-in-Err-clause-part
returns-in-Err-clause-part c =
    lex_fault c.args.number c.args.bytes.now c.args.selections.now c.args.kept.now fresh (left_of c.args.bytes.now c.args.cursor.now) c.loop-found.pending (left_of c.args.bytes.now c.loop-found.cursor) c.loop-found.invariant.reaches
    c.in-Err.fault c.loop-found.kept (left_of c.args.bytes.now c.next_token.new.cursor) (sym c.in-Err.ensures.answer)

pub returns-in_default-clause-part : goal.returns-in_default-clause-part
returns-in_default-clause-part c =
    rw c.loop-found.invariant.same
    (the_end c.args.number c.args.bytes.now c.args.selections.now c.args.kept.now fresh (left_of c.args.bytes.now c.args.cursor.now) c.loop-found.pending (left_of c.args.bytes.now c.loop-found.cursor) c.loop-found.invariant.reaches
    c.end_part.result (left_of c.args.bytes.now c.next_token.new.cursor) (sym c.in-Ok.ensures.answer ∙ ap Ok c.in_default.is) c.end_part.ensures)

pub take-requires : goal.take-requires
take-requires c = record {
  «open» = c.loop-found.invariant.few;
  within = led_roomy (is_full c.args.kept.now) c.args.selections.now _ _ c.loop-found.pending c.loop-found.invariant.led (few_tokens _ _ c.requires.room);
}

pub returns-in-Some-fault-clause-part : goal.returns-in-Some-fault-clause-part
returns-in-Some-fault-clause-part c =
    token_fault c.args.number c.args.bytes.now c.args.selections.now c.args.kept.now fresh (left_of c.args.bytes.now c.args.cursor.now) c.loop-found.pending (left_of c.args.bytes.now c.loop-found.cursor) c.loop-found.invariant.reaches
    c.in-Some.token (sym c.in-Ok.ensures.answer ∙ ap Ok c.in-Some.is) (Some c.in-Some-fault.kind) c.take.new.self c.in-Some-fault.kind c.loop-found.kept (left_of c.args.bytes.now c.next_token.new.cursor)
    (rw c.as_slice.ensures at (rw c.in-Some-fault.is at c.in_ok-fault.ensures.taken))

pub keep-requires-clause-ready : goal.keep-requires-clause-ready
keep-requires-clause-ready c =
    let step =
    steps (is_full c.args.kept.now) c.args.selections.now c.args.bytes.now c.args.cursor.now c.loop-found.cursor c.next_token.new.cursor c.loop-found.pending c.in-Some.token c.take.new.self c.loop-found.invariant.led
    (sym c.in-Ok.ensures.answer ∙ ap Ok c.in-Some.is) c.in-Ok.ensures.left (rw c.in-Some.is at c.in-Ok.ensures.token) (rw c.as_slice.ensures at (rw c.in_default-fault.is at c.in_ok-fault.ensures.taken)) in
    step_ready (is_full c.args.kept.now) c.args.selections.now c.args.bytes.now c.args.cursor.now c.loop-found.cursor c.next_token.new.cursor c.loop-found.pending c.in-Some.token c.take.new.self step c.in-ClauseClosed.is (few_tokens _ _ c.requires.room)

pub keep-requires-clause-room : goal.keep-requires-clause-room
keep-requires-clause-room c =
    let step =
    steps (is_full c.args.kept.now) c.args.selections.now c.args.bytes.now c.args.cursor.now c.loop-found.cursor c.next_token.new.cursor c.loop-found.pending c.in-Some.token c.take.new.self c.loop-found.invariant.led
    (sym c.in-Ok.ensures.answer ∙ ap Ok c.in-Some.is) c.in-Ok.ensures.left (rw c.in-Some.is at c.in-Ok.ensures.token) (rw c.as_slice.ensures at (rw c.in_default-fault.is at c.in_ok-fault.ensures.taken)) in
    let items = step_items (is_full c.args.kept.now) c.args.selections.now c.args.bytes.now c.args.cursor.now c.loop-found.cursor c.next_token.new.cursor c.loop-found.pending c.in-Some.token c.take.new.self step c.in-ClauseClosed.is in
    rw c.loop-found.invariant.same (omega (arith, items, c.requires.room))

pub keep-requires-clause-few : goal.keep-requires-clause-few
keep-requires-clause-few c =
    let step =
    steps (is_full c.args.kept.now) c.args.selections.now c.args.bytes.now c.args.cursor.now c.loop-found.cursor c.next_token.new.cursor c.loop-found.pending c.in-Some.token c.take.new.self c.loop-found.invariant.led
    (sym c.in-Ok.ensures.answer ∙ ap Ok c.in-Some.is) c.in-Ok.ensures.left (rw c.in-Some.is at c.in-Ok.ensures.token) (rw c.as_slice.ensures at (rw c.in_default-fault.is at c.in_ok-fault.ensures.taken)) in
    λ chosen. rw c.loop-found.invariant.same (step_room (is_full c.args.kept.now) c.args.selections.now c.args.bytes.now c.args.cursor.now c.loop-found.cursor c.next_token.new.cursor c.loop-found.pending c.in-Some.token c.take.new.self step _ refl c.in-ClauseClosed.is chosen)

pub returns-in-ClauseClosed-clause-paid : goal.returns-in-ClauseClosed-clause-paid
returns-in-ClauseClosed-clause-paid c =
    let step =
    steps (is_full c.args.kept.now) c.args.selections.now c.args.bytes.now c.args.cursor.now c.loop-found.cursor c.next_token.new.cursor c.loop-found.pending c.in-Some.token c.take.new.self c.loop-found.invariant.led
    (sym c.in-Ok.ensures.answer ∙ ap Ok c.in-Some.is) c.in-Ok.ensures.left (rw c.in-Some.is at c.in-Ok.ensures.token) (rw c.as_slice.ensures at (rw c.in_default-fault.is at c.in_ok-fault.ensures.taken)) in
    step_pays (is_full c.args.kept.now) c.args.selections.now c.args.bytes.now c.args.cursor.now c.loop-found.cursor c.next_token.new.cursor c.loop-found.pending c.in-Some.token c.take.new.self step c.args.kept.now c.keep.new.kept c.in-ClauseClosed.is (rw c.loop-found.invariant.same at c.in_ok-keep-in-ClauseClosed.ensures.grown)

pub returns-in-ClauseClosed-clause-part : goal.returns-in-ClauseClosed-clause-part
returns-in-ClauseClosed-clause-part c =
    let step =
    steps (is_full c.args.kept.now) c.args.selections.now c.args.bytes.now c.args.cursor.now c.loop-found.cursor c.next_token.new.cursor c.loop-found.pending c.in-Some.token c.take.new.self c.loop-found.invariant.led
    (sym c.in-Ok.ensures.answer ∙ ap Ok c.in-Some.is) c.in-Ok.ensures.left (rw c.in-Some.is at c.in-Ok.ensures.token) (rw c.as_slice.ensures at (rw c.in_default-fault.is at c.in_ok-fault.ensures.taken)) in
    rw c.in-Ok.ensures.left
    (clause_ends c.args.number c.args.bytes.now c.args.selections.now c.args.kept.now fresh (left_of c.args.bytes.now c.args.cursor.now) c.loop-found.pending (left_of c.args.bytes.now c.loop-found.cursor) c.loop-found.invariant.reaches
    c.in-Some.token (sym c.in-Ok.ensures.answer ∙ ap Ok c.in-Some.is) None c.take.new.self c.keep.new.kept
    (rw (c.as_slice.ensures) at (rw c.in_default-fault.is at c.in_ok-fault.ensures.taken)) c.in-ClauseClosed.is (rw c.loop-found.invariant.same at c.in_ok-keep-in-ClauseClosed.ensures.kept))

pub returns-in-IncludeClosed-clause-paid : goal.returns-in-IncludeClosed-clause-paid
returns-in-IncludeClosed-clause-paid c =
    let step =
    steps (is_full c.args.kept.now) c.args.selections.now c.args.bytes.now c.args.cursor.now c.loop-found.cursor c.next_token.new.cursor c.loop-found.pending c.in-Some.token c.take.new.self c.loop-found.invariant.led
    (sym c.in-Ok.ensures.answer ∙ ap Ok c.in-Some.is) c.in-Ok.ensures.left (rw c.in-Some.is at c.in-Ok.ensures.token) (rw c.as_slice.ensures at (rw c.in_default-fault.is at c.in_ok-fault.ensures.taken)) in
    rw (c.include_part.ensures, c.loop-found.invariant.same) (step_asks (is_full c.args.kept.now) c.args.selections.now c.args.bytes.now c.args.cursor.now c.loop-found.cursor c.next_token.new.cursor c.loop-found.pending c.in-Some.token c.take.new.self step c.args.kept.now (few_tokens _ _ c.requires.room))

pub returns-in-IncludeClosed-clause-part : goal.returns-in-IncludeClosed-clause-part
returns-in-IncludeClosed-clause-part c =
    let step =
    steps (is_full c.args.kept.now) c.args.selections.now c.args.bytes.now c.args.cursor.now c.loop-found.cursor c.next_token.new.cursor c.loop-found.pending c.in-Some.token c.take.new.self c.loop-found.invariant.led
    (sym c.in-Ok.ensures.answer ∙ ap Ok c.in-Some.is) c.in-Ok.ensures.left (rw c.in-Some.is at c.in-Ok.ensures.token) (rw c.as_slice.ensures at (rw c.in_default-fault.is at c.in_ok-fault.ensures.taken)) in
    rw (c.in-Ok.ensures.left, c.include_part.ensures, c.loop-found.invariant.same)
    (include_ends c.args.number c.args.bytes.now c.args.selections.now c.args.kept.now fresh (left_of c.args.bytes.now c.args.cursor.now) c.loop-found.pending (left_of c.args.bytes.now c.loop-found.cursor) c.loop-found.invariant.reaches
    c.in-Some.token (sym c.in-Ok.ensures.answer ∙ ap Ok c.in-Some.is) None c.take.new.self
    (rw (c.as_slice.ensures) at (rw c.in_default-fault.is at c.in_ok-fault.ensures.taken)) c.in-IncludeClosed.is)

pub loop-found-preserved : goal.loop-found-preserved
loop-found-preserved c =
    let step =
    steps (is_full c.args.kept.now) c.args.selections.now c.args.bytes.now c.args.cursor.now c.loop-found.cursor c.next_token.new.cursor c.loop-found.pending c.in-Some.token c.take.new.self c.loop-found.invariant.led
    (sym c.in-Ok.ensures.answer ∙ ap Ok c.in-Some.is) c.in-Ok.ensures.left (rw c.in-Some.is at c.in-Ok.ensures.token) (rw c.as_slice.ensures at (rw c.in_default-fault.is at c.in_ok-fault.ensures.taken)) in
    record {
      at = c.in-Ok.ensures.at;
      same = c.loop-found.invariant.same;
      few = rw c.in_default-fault.is at c.in_ok-fault.ensures.open;
      led = step_on (is_full c.args.kept.now) c.args.selections.now c.args.bytes.now c.args.cursor.now c.loop-found.cursor c.next_token.new.cursor c.loop-found.pending c.in-Some.token c.take.new.self step c.in_default-state.not-ClauseClosed c.in_default-state.not-IncludeClosed;
      reaches =
          rw c.in-Ok.ensures.left
          (token_within c.args.number c.args.bytes.now c.args.selections.now c.args.kept.now fresh (left_of c.args.bytes.now c.args.cursor.now) c.loop-found.pending (left_of c.args.bytes.now c.loop-found.cursor) c.loop-found.invariant.reaches
          c.in-Some.token (sym c.in-Ok.ensures.answer ∙ ap Ok c.in-Some.is) None c.take.new.self
          (rw (c.as_slice.ensures) at (rw c.in_default-fault.is at c.in_ok-fault.ensures.taken)) c.in_default-state.not-ClauseClosed c.in_default-state.not-IncludeClosed);
    }
