-- `leads` meets its contract. Assumes nothing.
use Prim.Native.Nat.{◌<◌}
use native.Mathlib.Omega.{arith}
use borrow.Author.Tests.{lt-ltb}
use Rattle.radix.proofs.judge.leads.Goals as goal

pub returns-then-left-eq0 : goal.returns-then-left-eq0
returns-then-left-eq0 c = rw c.if-left-eq0.true

pub returns-then-link-eq0 : goal.returns-then-link-eq0
returns-then-link-eq0 c = let h : 0 < c.args.left = omega arith in rw (lt-ltb 0 _ h, c.if-link-eq0.true)

pub returns : goal.returns
returns c =
    let h : 0 < c.args.left = omega arith in
    let k : 0 < c.args.link = omega arith in
    rw (lt-ltb 0 _ h, lt-ltb 0 _ k)
