-- Assumes nothing.
use native.Mathlib.Omega.{arith}
use borrow.Author.Tests.{le-leb, lt-leb}
use Rattle.resp.specs.Reply.{integer_bytes}
use Rattle.resp.proofs.Writing.{length_integer, put_integer, replied_other, replied_short, replied}
use Rattle.resp.proofs.integer_reply.Goals as goal

pub returns-then-n-gt6400 : goal.returns-then-n-gt6400
returns-then-n-gt6400 c = let a = c.args in replied_other _ (integer_bytes a.n) a.out.now (lt-leb a.n 6400 c.if-n-gt6400.true)

pub returns-then-out-head_size : goal.returns-then-out-head_size
returns-then-out-head_size c =
    let a = c.args in
    replied_short _ (integer_bytes a.n) a.out.now (le-leb a.n 6400 (omega arith)) (omega (arith, c.if-out-head_size.true, c.head_size.ensures.0 58, length_integer a.n))

pub write_head-end-requires : goal.write_head-end-requires
write_head-end-requires c = let a = c.args in omega (arith, c.head_size.ensures.0 58)

pub returns : goal.returns
returns c =
    let a = c.args in
    replied _ (integer_bytes a.n) a.out.now (le-leb a.n 6400 (omega arith)) (omega (arith, c.head_size.ensures.0 58, length_integer a.n)) _ _ (omega (arith, c.write_head-end.ensures.0, length_integer a.n)) (put_integer _ _ _ c.write_head-end.ensures.1)
