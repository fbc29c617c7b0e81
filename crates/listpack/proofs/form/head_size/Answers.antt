-- `listpack::form::head_size` meets its contract. Assumes nothing.
use mathlib.Core.Path.{sym}
use native.Mathlib.Omega.{arith}
use Rattle.listpack.proofs.Cases.{size_head_1, size_head_2}
use Rattle.listpack.proofs.form.head_size.Goals as goal

pub returns-then-n-lt64 : goal.returns-then-n-lt64
returns-then-n-lt64 c = sym (size_head_1 _ (omega arith))

pub returns : goal.returns
returns c = sym (size_head_2 _ (omega arith))
