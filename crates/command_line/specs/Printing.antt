-- How lines are put.
use Rattle.std.specs.Prelude.{◌≡◌, ℕ, ◌⊎◌}
use Rattle.mg_outside.specs.Putting.{SinkSeen, AllPut, PutFailed}
use Rattle.szs_report.specs.Printing.{text_of}
use Rattle.command_line.specs.declared.printout.Printout.{Printout}
use Rattle.command_line.specs.Statuses.{code}
use Rattle.command_line.specs.declared.status.Status.TheVariants.{Failed}

-- the lines for the output and the messages were put, and the status is the printout's
pub record IsWhole (printout : Printout) (out out' err err' : SinkSeen) (status : ℕ) : Type 0 where
  pub lines : AllPut out out' (text_of printout.out)
  pub messages : AllPut err err' (text_of printout.err)
  pub status_is : status ≡ code printout.status

-- a put of the lines for the output failed: nothing was put behind it
pub record LinesFailed (printout : Printout) (out out' err err' : SinkSeen) (status : ℕ) : Type 0 where
  pub lines : PutFailed out out' (text_of printout.out)
  pub messages : err' ≡ err
  pub status_is : status ≡ code Failed

-- the lines for the output were put, and a put of the messages failed
pub record MessagesFailed (printout : Printout) (out out' err err' : SinkSeen) (status : ℕ) : Type 0 where
  pub lines : AllPut out out' (text_of printout.out)
  pub messages : PutFailed err err' (text_of printout.err)
  pub status_is : status ≡ code Failed

-- the lines for the output are put first, then the messages, and nothing behind a failed put
abbrev pub Prints : Printout → SinkSeen → SinkSeen → SinkSeen → SinkSeen → ℕ → Type 0
Prints printout out out' err err' status = IsWhole printout out out' err err' status ⊎ (LinesFailed printout out out' err err' status ⊎ MessagesFailed printout out out' err err' status)
