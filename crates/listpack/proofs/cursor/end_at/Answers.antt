-- `listpack::cursor::end_at` meets its contract. Assumes nothing.
use mathlib.Core.Path.{sym}
use native.Mathlib.Omega.{arith}
use Rattle.listpack.proofs.Walks.{end_other, end_byte_lem}
use lib.ListN.{length-drop}
use Rattle.listpack.proofs.cursor.end_at.Goals as goal

pub returns-then-s-at : goal.returns-then-s-at
returns-then-s-at c = let a = c.args in sym (end_other a.s.now a.at (omega (arith, length-drop a.at a.s.now)))

pub returns-then-s-at-ne1 : goal.returns-then-s-at-ne1
returns-then-s-at-ne1 c = let a = c.args in sym (end_other a.s.now a.at (omega (arith, length-drop a.at a.s.now)))

pub returns : goal.returns
returns c = let a = c.args in sym (end_byte_lem a.s.now a.at (omega arith))
