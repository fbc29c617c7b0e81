-- `write` meets its contract. Assumes nothing.
use native.Mathlib.Omega.{arith}
use Rattle.report.proofs.Lines.{then_lines, no_lines, told_lines}
use Rattle.report.proofs.text.write.Goals as goal

pub returns-in-Refused : goal.returns-in-Refused
returns-in-Refused c = told_lines c.in-Refused.is (rw (← c.number.ensures) c.number-in-Refused.ensures)

pub returns-in-Reported : goal.returns-in-Reported
returns-in-Reported c = told_lines c.in-Reported.is (then_lines (omega arith) c.counts-at.ensures c.extremes.ensures)

pub returns-in-NoIntegers : goal.returns-in-NoIntegers
returns-in-NoIntegers c = told_lines c.in-NoIntegers.is (then_lines (omega arith) c.counts-at-in-NoIntegers.ensures c.no_extremes.ensures)

pub returns-in-Done : goal.returns-in-Done
returns-in-Done c = told_lines c.in-Done.is (no_lines c.args.d.now)

pub returns-in-Given : goal.returns-in-Given
returns-in-Given c = told_lines c.in-Given.is (no_lines c.args.d.now)

pub returns-in-Counted : goal.returns-in-Counted
returns-in-Counted c = told_lines c.in-Counted.is (no_lines c.args.d.now)

pub returns-in-Written : goal.returns-in-Written
returns-in-Written c = told_lines c.in-Written.is (no_lines c.args.d.now)

pub returns-in-Entry : goal.returns-in-Entry
returns-in-Entry c = told_lines c.in-Entry.is (no_lines c.args.d.now)

pub returns-in-Moved : goal.returns-in-Moved
returns-in-Moved c = told_lines c.in-Moved.is (no_lines c.args.d.now)

pub returns-in-Nothing : goal.returns-in-Nothing
returns-in-Nothing c = told_lines c.in-Nothing.is (no_lines c.args.d.now)

pub returns-in-Absent : goal.returns-in-Absent
returns-in-Absent c = told_lines c.in-Absent.is (no_lines c.args.d.now)

pub returns-in-NotMoved : goal.returns-in-NotMoved
returns-in-NotMoved c = told_lines c.in-NotMoved.is (no_lines c.args.d.now)
