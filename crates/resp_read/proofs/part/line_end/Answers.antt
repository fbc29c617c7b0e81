-- Assumes nothing.
use mathlib.Core.Path.{sym}
use native.Mathlib.Omega.{arith}
use Rattle.resp_read.proofs.Parts.{end_short, end_first, end_second, end_here}
use Rattle.resp_read.proofs.part.line_end.Goals as goal

pub returns-then-s-lt2 : goal.returns-then-s-lt2
returns-then-s-lt2 c = sym (end_short _ _ (omega arith))

pub returns-then-s-at : goal.returns-then-s-at
returns-then-s-at c = sym (end_short _ _ (omega arith))

pub returns-then-s-at-ne13 : goal.returns-then-s-at-ne13
returns-then-s-at-ne13 c = sym (end_first _ _ (omega arith) (omega arith))

pub returns-then-s-at-ne10 : goal.returns-then-s-at-ne10
returns-then-s-at-ne10 c = sym (end_second _ _ (omega arith) (omega arith) (omega arith))

pub returns : goal.returns
returns c = sym (end_here _ _ (omega arith) (omega arith) (omega arith))
