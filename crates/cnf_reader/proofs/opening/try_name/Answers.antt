use Rattle.std.proofs.Common.{refl}
use Rattle.cnf_reader.proofs.Tries.{try_opened, try_absent, try_too_long, try_failed}
use Rattle.cnf_reader.proofs.opening.try_name.Goals as goal

pub returns-in-Done-clause-tried : goal.returns-in-Done-clause-tried
returns-in-Done-clause-tried g c = try_opened _ c.args.name.now c.args.limit c.read.new.into _ c.new-bytes.ensures.items (c.in-Done.ensures.done refl)

pub returns-in-Absent-clause-tried : goal.returns-in-Absent-clause-tried
returns-in-Absent-clause-tried g c = try_absent _ c.args.name.now c.args.limit (c.in-Absent.ensures.absent refl)

pub returns-in-TooLong-clause-tried : goal.returns-in-TooLong-clause-tried
returns-in-TooLong-clause-tried g c = try_too_long _ c.args.name.now c.args.limit (c.in-TooLong.ensures.too_long refl)

pub returns-in-Failed-clause-tried : goal.returns-in-Failed-clause-tried
returns-in-Failed-clause-tried g c = try_failed _ c.args.name.now c.args.limit
