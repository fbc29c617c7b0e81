-- `listpack::form::back_size` meets its contract. Assumes nothing.
use mathlib.Core.Path.{sym}
use native.Mathlib.Omega.{arith}
use Rattle.listpack.proofs.Cases.{size_back_1, size_back_2}
use Rattle.listpack.proofs.form.back_size.Goals as goal

pub returns-then-n-lt128 : goal.returns-then-n-lt128
returns-then-n-lt128 c = sym (size_back_1 _ (omega arith))

pub returns : goal.returns
returns c = sym (size_back_2 _ (omega arith))
