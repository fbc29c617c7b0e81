-- `ends_at` meets its contract. Assumes nothing.
use mathlib.Core.Path.{sym, ap, ◌∙◌}
use Prim.Native.Nat.{◌+◌, ◌*◌}
use native.Mathlib.Omega.{arith}
use Rattle.octets.specs.Compare.{all_zero}
use Rattle.radix_bytes.specs.Bytes.{labels_at, pool_in}
use Rattle.radix_judge.proofs.Tests.{second_not, second_is, label_tail, label_full, label_long}
use Rattle.radix_judge.proofs.node.ends_at.Goals as goal

pub returns-then-n-eq16 : goal.returns-then-n-eq16
returns-then-n-eq16 c = let x = c.args in label_full (pool_in x.s.now).label (16 * x.p + x.n) x.n c.if-n-eq16.true

pub returns-then-n-gt8 : goal.returns-then-n-gt8
returns-then-n-gt8 c = let x = c.args in c.zero_after.ensures ∙ ap all_zero (label_long x.s.now x.p x.n c.requires.1.0 c.if-n-gt8.true c.requires.1.1)

pub returns-then-not-zero_word : goal.returns-then-not-zero_word
returns-then-not-zero_word c = let x = c.args in sym (second_not x.s.now (labels_at + 16 * x.p) x.n c.if-n-gt8.false (omega (arith, c.requires.0)) (sym c.zero_word.ensures ∙ c.if-not-zero_word.true)) ∙ ap all_zero (label_tail x.s.now x.p x.n c.requires.1.0 c.requires.1.1)

pub returns : goal.returns
returns c = let x = c.args in c.zero_word-2.ensures ∙ second_is x.s.now (labels_at + 16 * x.p) x.n c.if-n-gt8.false (omega (arith, c.requires.0)) (sym c.zero_word.ensures ∙ c.if-not-zero_word.false) ∙ ap all_zero (label_tail x.s.now x.p x.n c.requires.1.0 c.requires.1.1)
