-- Assumes nothing.
use mathlib.Core.Path.{sym}
use native.Mathlib.Omega.{arith}
use Rattle.resp_read.proofs.Openings.{count_odd, count_few, count_many, count_there}
use Rattle.resp_read.proofs.entry.pair_count.Goals as goal

pub returns-then-n-ne0 : goal.returns-then-n-ne0
returns-then-n-ne0 c = sym (count_odd _ (omega arith))

pub returns-then-n-lt2 : goal.returns-then-n-lt2
returns-then-n-lt2 c = sym (count_few _ (omega arith) (omega arith))

pub returns-then-n-gt64 : goal.returns-then-n-gt64
returns-then-n-gt64 c = sym (count_many _ (omega arith) (omega arith))

pub returns : goal.returns
returns c = sym (count_there _ (omega arith) (omega arith) (omega arith))
