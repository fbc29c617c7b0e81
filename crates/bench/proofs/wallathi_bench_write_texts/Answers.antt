use Rattle.std.proofs.Common.{◌≡◌, ◌<◌, length, ◌∙◌, arith, rules, lt-ltb}
use Rattle.listpack.specs.Element.{element, element_size}
use Rattle.bench.proofs.wallathi_bench_write_texts.Goals as goal
use Rattle.bench.proofs.wallathi_bench_write_texts.Goals.{After-element_size-size}

-- the size that is asked for once is that of each element
size_now : (c : After-element_size-size) → c.element_size-size.result ≡ length (element c.args.text.now)
unfolding element_size
size_now c = let short : length c.args.text.now < 4096 = omega arith in c.element_size-size.ensures ∙ simp lt-ltb

pub write_string-at-requires : goal.write_string-at-requires
write_string-at-requires c = (omega arith, omega (arith, size_now (goal.at.write_string-at-requires c).After-element_size-size))

pub loop-count-preserved : goal.loop-count-preserved
loop-count-preserved c = let h = size_now (goal.at.loop-count-preserved c).After-element_size-size in search rules
