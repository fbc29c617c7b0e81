-- `listpack::form::body_size` meets its contract. Assumes nothing.
use mathlib.Core.Path.{sym}
use native.Mathlib.Omega.{arith}
use Rattle.listpack.proofs.Cases.{size_1, size_2, size_wide}
use Rattle.listpack.proofs.form.body_size.Goals as goal

pub returns-then-p-lt128 : goal.returns-then-p-lt128
returns-then-p-lt128 c = sym (size_1 _ (omega arith))

pub returns-then-fits : goal.returns-then-fits
returns-then-fits c = sym (size_2 _ (omega arith) (cc))

pub wide_form-f-requires : goal.wide_form-f-requires
wide_form-f-requires c = (omega arith, cc)

pub returns : goal.returns
returns c = sym (size_wide _ _ _ _ c.wide_form-f.ensures)
