-- Assumes nothing.
use mathlib.Core.Path.{sym}
use native.Mathlib.Omega.{arith}
use Rattle.listpack.proofs.AtPlace.{small_short, small_first, small_last}
use Rattle.listpack.proofs.strict.is_small.Goals as goal

pub returns-then-t-lt2 : goal.returns-then-t-lt2
returns-then-t-lt2 c = sym (small_short _ _ (omega arith))

pub returns-then-wide-p : goal.returns-then-wide-p
returns-then-wide-p c = sym (small_first _ _ (omega arith) _ c.wide.ensures.0 c.if-wide-p.true)

pub returns : goal.returns
returns c = sym (small_last _ _ (omega arith) (omega arith) _ c.wide.ensures.0 c.if-wide-p.false)
