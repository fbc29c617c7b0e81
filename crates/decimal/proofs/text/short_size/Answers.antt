-- Assumes nothing.
use native.Mathlib.Omega.{arith}
use Prim.Native.Nat.{◌/◌}
use Rattle.decimal.proofs.Natural.{length_one, length_more}
use Rattle.decimal.proofs.text.short_size.Goals as goal

pub returns-then-n-lt10 : goal.returns-then-n-lt10
returns-then-n-lt10 c = (omega (arith, length_one c.args.n (omega arith)), omega arith)

pub returns-then-n-lt100 : goal.returns-then-n-lt100
returns-then-n-lt100 c = let n = c.args.n in (omega (arith, length_more n (omega arith) (omega arith), length_one (n / 10) (omega arith)), omega arith)

pub returns-then-n-lt1000 : goal.returns-then-n-lt1000
returns-then-n-lt1000 c = let n = c.args.n in (omega (arith, length_more n (omega arith) (omega arith), length_more (n / 10) (omega arith) (omega arith), length_one (n / 10 / 10) (omega arith)), omega arith)

pub returns : goal.returns
returns c =
    let n = c.args.n in
    (omega (arith, length_more n (omega arith) (omega arith), length_more (n / 10) (omega arith) (omega arith), length_more (n / 10 / 10) (omega arith) (omega arith), length_one (n / 10 / 10 / 10) (omega arith)), omega arith)
