use mathlib.Core.Path.{refl, ◌∙◌}
use Prim.Native.Nat.{◌-◌}
use native.Mathlib.Omega.{arith}
use Rattle.radix_bytes.specs.Bytes.{pool_in}
use Rattle.radix_judge.proofs.Frees.{free_stop, free_go, free_end}
use Rattle.radix_judge.proofs.free.free_from.Goals as goal

pub loop-p-init : goal.loop-p-init
loop-p-init c = refl

pub free_unless-requires : goal.free_unless-requires
free_unless-requires c = (c.requires.0, (c.requires.1.0, omega arith))

pub returns-then-not-free_unless : goal.returns-then-not-free_unless
returns-then-not-free_unless c = let x = c.args in free_stop (pool_in x.s.now) x.marks.now c.loop-p.p c.free_unless.result (omega arith) c.free_unless.ensures (c.if-not-free_unless.true) ∙ c.loop-p.invariant

pub loop-p-preserved : goal.loop-p-preserved
loop-p-preserved c = let x = c.args in free_go (pool_in x.s.now) x.marks.now c.loop-p.p c.free_unless.result (omega arith) c.free_unless.ensures (c.if-not-free_unless.false) ∙ c.loop-p.invariant

pub returns : goal.returns
returns c = let x = c.args in free_end (pool_in x.s.now) x.marks.now c.loop-p.p (256 - c.loop-p.p) (omega arith) ∙ c.loop-p.invariant
