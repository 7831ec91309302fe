-- What the errors of the system answer to a read of a real file.
use Rattle.std.specs.declared.io.ErrorKind.{ErrorKind}
use Rattle.std.specs.declared.io.ErrorKind.TheVariants.{OutOfMemory, NotFound}
use Rattle.mg_outside.specs.declared.files.ReadAnswer.{ReadAnswer}
use Rattle.mg_outside.specs.declared.files.ReadAnswer.TheVariants.{Absent, Failed, NoMemory}

-- want of memory apart, an error of reading is a fault
abbrev pub unread_answer : ErrorKind → ReadAnswer
unread_answer OutOfMemory = NoMemory
unread_answer _ = Failed

-- an error of opening is an absence where there is no such file, else as an error of reading
abbrev pub unopened_answer : ErrorKind → ReadAnswer
unopened_answer NotFound = Absent
unopened_answer OutOfMemory = NoMemory
unopened_answer _ = Failed
