-- `wallathi_bench_write_texts` meets its contract: there is always room for the end byte. Assumes nothing.
use Rattle.std.proofs.Common.{◌≡◌, ◌+◌, ◌≤◌, length}
use Rattle.bench.proofs.wallathi_bench_write_texts.Given as goal

abbrev pub invariant-loop-count : goal.invariant-loop-count
invariant-loop-count l = (length l.d ≡ length l.initial.d) × (6 ≤ l.at) × (l.at + 1 ≤ length l.initial.d)
