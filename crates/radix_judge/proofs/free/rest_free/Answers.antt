-- `rest_free` meets its contract. Assumes nothing.
use mathlib.Core.Path.{sym, ◌∙◌}
use Rattle.radix_bytes.specs.Bytes.{pool_in}
use Rattle.radix_judge.proofs.Frees.{rest_zero_lem}
use Rattle.radix_judge.proofs.free.rest_free.Goals as goal

pub returns-then-zero_from : goal.returns-then-zero_from
returns-then-zero_from c = let x = c.args in sym (rest_zero_lem x.s.now x.marks.now c.first_free-p.result c.requires.0 c.first_free-p.ensures.0 (sym c.zero_from.ensures ∙ c.if-zero_from.true)) ∙ c.first_free-p.ensures.1 (pool_in x.s.now)

pub returns : goal.returns
returns c = c.free_from.ensures ∙ c.first_free-p.ensures.1 (pool_in c.args.s.now)
