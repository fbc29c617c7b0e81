-- `listpack::read::read_tagged` meets its contract. Assumes nothing.
use mathlib.Core.Path.{sym, ap, ◌∙◌}
use native.Mathlib.Omega.{arith}
use Rattle.listpack.specs.Read.{read_wide}
use Rattle.listpack.proofs.Leaves.{tag_16, tag_24, tag_32, tag_64, tag_none, wide_no}
use Rattle.listpack.proofs.read.read_tagged.Goals as goal

pub returns-then-b-eq241 : goal.returns-then-b-eq241
returns-then-b-eq241 c = c.read_wide.ensures ∙ ap (λ w. read_wide w c.args.s.now) (sym (tag_16 _ (omega arith)))

pub returns-then-b-eq242 : goal.returns-then-b-eq242
returns-then-b-eq242 c = c.read_wide-then-b-eq242.ensures ∙ ap (λ w. read_wide w c.args.s.now) (sym (tag_24 _ (omega arith) (omega arith)))

pub returns-then-b-eq243 : goal.returns-then-b-eq243
returns-then-b-eq243 c = c.read_wide-then-b-eq243.ensures ∙ ap (λ w. read_wide w c.args.s.now) (sym (tag_32 _ (omega arith) (omega arith) (omega arith)))

pub returns-then-b-eq244 : goal.returns-then-b-eq244
returns-then-b-eq244 c = c.read_wide-then-b-eq244.ensures ∙ ap (λ w. read_wide w c.args.s.now) (sym (tag_64 _ (omega arith) (omega arith) (omega arith) (omega arith)))

pub returns : goal.returns
returns c = sym (wide_no _ _ (tag_none _ (omega arith) (omega arith) (omega arith) (omega arith)))
