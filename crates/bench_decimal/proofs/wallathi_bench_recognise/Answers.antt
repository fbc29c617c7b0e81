-- Assumes nothing.
use Rattle.std.proofs.Common.{ℕ, Option}
use mathlib.Core.Path.{ap, ◌∙◌}
use Rattle.bench_decimal.specs.Told.{code_of, over}
use Rattle.bench_decimal.proofs.wallathi_bench_recognise.Goals as goal

pub returns : goal.returns
returns c = let e = c.recognise.ensures in (c.told.ensures.0 ∙ ap code_of e, c.told.ensures.1 ∙ ap (λ (x : Option ℕ). over x c.args.pattern.now) e)
