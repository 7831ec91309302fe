use Rattle.std.proofs.Common.{arith}
use Rattle.szs_report.proofs.SampleNames.{one_digit, two_digits}
use Rattle.szs_report.proofs.names.sample_name.Goals as goal

pub returns-in-1 : goal.returns-in-1
returns-in-1 c = one_digit c.args.size 1 c.in-1.is (omega arith)

pub returns-in-2 : goal.returns-in-2
returns-in-2 c = one_digit c.args.size 2 c.in-2.is (omega arith)

pub returns-in-3 : goal.returns-in-3
returns-in-3 c = one_digit c.args.size 3 c.in-3.is (omega arith)

pub returns-in-4 : goal.returns-in-4
returns-in-4 c = one_digit c.args.size 4 c.in-4.is (omega arith)

pub returns-in-5 : goal.returns-in-5
returns-in-5 c = one_digit c.args.size 5 c.in-5.is (omega arith)

pub returns-in-6 : goal.returns-in-6
returns-in-6 c = one_digit c.args.size 6 c.in-6.is (omega arith)

pub returns-in-7 : goal.returns-in-7
returns-in-7 c = one_digit c.args.size 7 c.in-7.is (omega arith)

pub returns-in-8 : goal.returns-in-8
returns-in-8 c = one_digit c.args.size 8 c.in-8.is (omega arith)

pub returns-in-9 : goal.returns-in-9
returns-in-9 c = one_digit c.args.size 9 c.in-9.is (omega arith)

pub returns-in-10 : goal.returns-in-10
returns-in-10 c = two_digits c.args.size 10 c.in-10.is (omega arith) (omega arith)

pub returns-in-11 : goal.returns-in-11
returns-in-11 c = two_digits c.args.size 11 c.in-11.is (omega arith) (omega arith)

pub returns-in-12 : goal.returns-in-12
returns-in-12 c = two_digits c.args.size 12 c.in-12.is (omega arith) (omega arith)

pub returns-in-13 : goal.returns-in-13
returns-in-13 c = two_digits c.args.size 13 c.in-13.is (omega arith) (omega arith)

pub returns-in-14 : goal.returns-in-14
returns-in-14 c = two_digits c.args.size 14 c.in-14.is (omega arith) (omega arith)

pub returns-in-15 : goal.returns-in-15
returns-in-15 c = two_digits c.args.size 15 c.in-15.is (omega arith) (omega arith)

pub returns-in-16 : goal.returns-in-16
returns-in-16 c = two_digits c.args.size 16 c.in-16.is (omega arith) (omega arith)

pub returns-in-17 : goal.returns-in-17
returns-in-17 c = two_digits c.args.size 17 c.in-17.is (omega arith) (omega arith)

pub returns-in-18 : goal.returns-in-18
returns-in-18 c = two_digits c.args.size 18 c.in-18.is (omega arith) (omega arith)

pub returns-in-19 : goal.returns-in-19
returns-in-19 c = two_digits c.args.size 19 c.in-19.is (omega arith) (omega arith)

pub returns-in-20 : goal.returns-in-20
returns-in-20 c = two_digits c.args.size 20 c.in-20.is (omega arith) (omega arith)
