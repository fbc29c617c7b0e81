-- `is_sound` meets its contract. Assumes nothing.
use mathlib.Core.Path.{◌∙◌}
use native.Mathlib.Omega.{arith}
use Rattle.bench_groups.proofs.Answers.{size_bad, region_judged}
use Rattle.bench_groups.proofs.is_sound.Goals as goal

pub returns-then-region-ne-REGION_BYTES : goal.returns-then-region-ne-REGION_BYTES
returns-then-region-ne-REGION_BYTES c = size_bad c.args.region.now (omega arith)

pub returns : goal.returns
returns c = c.is_region.ensures ∙ region_judged _
