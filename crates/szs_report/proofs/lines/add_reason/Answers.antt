use Rattle.szs_report.proofs.lines.add_reason.Goals as goal

pub returns-in-Budget : goal.returns-in-Budget
returns-in-Budget c = rw c.in-Budget.is c.add_number.ensures

pub returns-in-Weight : goal.returns-in-Weight
returns-in-Weight c = rw c.in-Weight.is c.add_number-in-Weight.ensures
