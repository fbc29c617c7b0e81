-- `is_short` meets its contract. Assumes nothing.
use native.Mathlib.Omega.{arith}
use Rattle.bench_groups.proofs.Answers.{short_none, short_some}
use Rattle.bench_groups.proofs.is_short.Goals as goal

pub returns-then-name-lt1 : goal.returns-then-name-lt1
returns-then-name-lt1 c = short_none c.args.name.now (omega arith)

pub returns : goal.returns
returns c = short_some c.args.name.now (omega arith)
