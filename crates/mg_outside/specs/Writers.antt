-- What a clause reads of a sink over a writer.
use Rattle.std.specs.Prelude.{None}
use Rattle.mg_outside.specs.Putting.{SinkSeen}
use Rattle.mg_outside.specs.declared.std_sink.StdSink.{StdSink}

-- the writer that the pieces are written to
abbrev pub writer_of : {W : Type 0} → StdSink W → W
writer_of sink = sink.writer

-- it does not tell what it holds, and counts the puts that failed
abbrev pub untold_seen : {W : Type 0} → StdSink W → SinkSeen
untold_seen sink = record { held = None; faults = sink.faults }
