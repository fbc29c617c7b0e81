-- Assumes nothing.
use mathlib.Core.Path.{sym, ap}
use native.Mathlib.Omega.{arith}
use Rattle.listpack.specs.AtPlace.{string_size}
use Rattle.listpack.proofs.Leaves.{read_none}
use Rattle.listpack.proofs.AtPlace.{tiny_is, tiny_bad}
use Rattle.listpack.proofs.strict.string_size.Goals as goal

pub returns-then-t-lt2 : goal.returns-then-t-lt2
returns-then-t-lt2 c = sym (ap string_size (read_none _ (omega arith)))

pub returns-then-t-eq1 : goal.returns-then-t-eq1
returns-then-t-eq1 c = sym (ap string_size (tiny_is _ _ (omega arith) c.wide-b.ensures.0 (omega arith) (omega arith)))

pub returns-then-b-lt128 : goal.returns-then-b-lt128
returns-then-b-lt128 c = sym (ap string_size (tiny_bad _ _ (omega arith) c.wide-b.ensures.0 (omega arith) (omega arith)))

pub returns : goal.returns
returns c = c.long_string_size.ensures
