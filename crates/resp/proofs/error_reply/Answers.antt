-- Assumes nothing.
use mathlib.Core.Path.{ap}
use mathlib.Core.List.{[], ◌∷◌}
use native.Mathlib.Omega.{arith}
use lib.ListN.{length}
use Rattle.octets.proofs.Laws.{length_put}
use Rattle.resp.specs.Reply.{error_bytes}
use Rattle.resp.proofs.Writing.{length_error, put_error, is_refusal_lem, none_low, none_high, replied_other, replied_short, replied}
use Rattle.resp.proofs.error_reply.Goals as goal

pub returns-then-n-lt1 : goal.returns-then-n-lt1
returns-then-n-lt1 c = let a = c.args in replied_other _ (error_bytes a.n) a.out.now (none_low a.n c.if-n-lt1.true)

pub returns-then-n-gt18 : goal.returns-then-n-gt18
returns-then-n-gt18 c = let a = c.args in replied_other _ (error_bytes a.n) a.out.now (none_high a.n c.if-n-gt18.true)

pub overflow_add-head_size : goal.overflow_add-head_size
overflow_add-head_size c = omega (arith, c.head_size.ensures.1)

pub returns-then-out-head_size : goal.returns-then-out-head_size
returns-then-out-head_size c =
    let a = c.args in
    replied_short _ (error_bytes a.n) a.out.now (is_refusal_lem a.n (omega arith) (omega arith)) (omega (arith, c.if-out-head_size.true, c.head_size.ensures.0 32, length_error a.n))

pub write_head-end-requires : goal.write_head-end-requires
write_head-end-requires c =
    let a = c.args in
    omega (arith, c.head_size.ensures.0 32, ap length c.copy_in.ensures, length_put a.out.now 0 (45 ∷ 69 ∷ 82 ∷ 82 ∷ []) (omega arith))

pub returns : goal.returns
returns c =
    let a = c.args in
    replied _ (error_bytes a.n) a.out.now (is_refusal_lem a.n (omega arith) (omega arith)) (omega (arith, c.head_size.ensures.0 32, length_error a.n)) _ _ (omega (arith, c.write_head-end.ensures.0, length_error a.n)) (put_error _ _ _ _ c.copy_in.ensures c.write_head-end.ensures.1)
