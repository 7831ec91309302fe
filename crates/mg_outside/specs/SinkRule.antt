-- The exact rule of a sink in memory.
use Rattle.std.specs.Prelude.{ℕ, ◌-◌, nat_lt, nat_eq, ◌||◌, Bool, List, [], ◌++◌, length, take, min, Option, Some, is_some, unwrap_or, if◌then◌else◌}
use Rattle.std.specs.List.{find}
use Rattle.std.specs.Option.{option_map}
use Rattle.mg_outside.specs.Causes.{one_more}
use Rattle.mg_outside.specs.Putting.{SinkSeen}
use Rattle.mg_outside.specs.declared.memory_sink.FailAt.{FailAt}
use Rattle.mg_outside.specs.declared.sink.PutAnswer.{PutAnswer}
use Rattle.mg_outside.specs.declared.sink.PutAnswer.TheVariants.{Done, Failed}

-- the bytes taken so far, how many fit, the calls that fail, the calls so far and the count
pub record SinkState : Type 0 where
  pub held : List ℕ
  pub room : ℕ
  pub failing : List FailAt
  pub calls : ℕ
  pub faults : ℕ

-- it tells what it holds, and counts the puts that failed
abbrev pub told_seen : SinkState → SinkSeen
told_seen sink = record { held = Some sink.held; faults = sink.faults }

-- a sink that nothing was put into yet
abbrev pub new_sink : ℕ → List FailAt → SinkState
new_sink room failing = record { held = []; room = room; failing = failing; calls = 0; faults = 0 }

-- how many bytes a call that fails takes, by the first entry for this call
abbrev pub taken_at : List FailAt → ℕ → Option ℕ
taken_at failing call = option_map (λ fail. fail.taken) (find (λ fail. nat_eq fail.call call) failing)

-- how many bytes the next call takes if it is one of those that fail
abbrev pub taken_next : SinkState → Option ℕ
taken_next sink = taken_at sink.failing (one_more sink.calls)

-- how many bytes of the piece are taken: those asked for that the piece has and that fit
abbrev pub taken_of : SinkState → List ℕ → ℕ
taken_of sink piece = min (min (unwrap_or (taken_next sink) (length piece)) (length piece)) (sink.room - length sink.held)

-- whether the next call fails: it is listed, or its piece does not fit
abbrev pub put_fails : SinkState → List ℕ → Bool
put_fails sink piece = is_some (taken_next sink) || nat_lt (sink.room - length sink.held) (length piece)

-- what the next call answers
abbrev pub put_answer : SinkState → List ℕ → PutAnswer
put_answer sink piece = if put_fails sink piece then Failed else Done

-- the state after the next call
abbrev pub after_put : SinkState → List ℕ → SinkState
after_put sink piece = record {
  held = sink.held ++ take (taken_of sink piece) piece;
  room = sink.room;
  failing = sink.failing;
  calls = one_more sink.calls;
  faults = if put_fails sink piece then one_more sink.faults else sink.faults;
}
