use Rattle.command_line.proofs.Memory.{memory_text}
use Rattle.command_line.proofs.putting.put_memory_status.Goals as goal

pub returns-in-Some : goal.returns-in-Some
returns-in-Some g c = rw (c.in-Some.is, memory_text c.in-Some.name.now, ← c.as_bytes.ensures.value) c.put_pieces.ensures
