-- Assumes nothing.
use mathlib.Core.Path.{sym}
use native.Mathlib.Omega.{arith}
use Rattle.listpack.proofs.AtPlace.{size_short, size_16, size_24, size_32, size_64}
use Rattle.listpack.proofs.strict.long_size.Goals as goal

pub returns-then-b-lt224 : goal.returns-then-b-lt224
returns-then-b-lt224 c = sym (size_short _ (omega arith))

pub returns-then-b-eq241 : goal.returns-then-b-eq241
returns-then-b-eq241 c = sym (size_16 _ (omega arith) (omega arith))

pub returns-then-b-eq242 : goal.returns-then-b-eq242
returns-then-b-eq242 c = sym (size_24 _ (omega arith) (omega arith) (omega arith))

pub returns-then-b-eq243 : goal.returns-then-b-eq243
returns-then-b-eq243 c = sym (size_32 _ (omega arith) (omega arith) (omega arith) (omega arith))

pub returns : goal.returns
returns c = sym (size_64 _ (omega arith) (omega arith) (omega arith) (omega arith))
