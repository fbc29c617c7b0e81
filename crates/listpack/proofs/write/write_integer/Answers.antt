-- `listpack::write::write_integer` meets its contract. Assumes nothing.
use mathlib.Core.Path.{sym, ap, ◌∙◌}
use native.Mathlib.Omega.{arith}
use Rattle.listpack.proofs.Forms.{body_size}
use Rattle.listpack.proofs.Sizes.{integer_is}
use Rattle.listpack.proofs.Writes.{stored_closed}
use Prim.Native.Nat.{◌+◌}
use Rattle.listpack.specs.Element.{integer, back_length}
use lib.ListN.{length}
use mathlib.Core.List.{List}
use Rattle.octets.specs.Place.{put}
use Rattle.listpack.proofs.write.write_integer.Goals as goal

pub write_body-n-requires : goal.write_body-n-requires
write_body-n-requires c = omega (arith, integer_is c.args.p)

pub overflow_add-end : goal.overflow_add-end
overflow_add-end c = omega (arith, integer_is c.args.p)

pub write_back-requires : goal.write_back-requires
write_back-requires c =
    let p = c.args.p in
    omega (arith, integer_is p, body_size p, ap (λ k. length (back_length k)) c.write_body-n.ensures.0)

pub overflow_add-result : goal.overflow_add-result
overflow_add-result c =
    let p = c.args.p in
    omega (arith, integer_is p, ap (λ k. length (back_length k)) c.write_body-n.ensures.0)

pub returns : goal.returns
returns c =
    let a = c.args in
    let w = c.write_body-n in
    let k = c.write_back in
    (omega (arith, integer_is a.p, ap (λ k. length (back_length k)) w.ensures.0), k.ensures.1 ∙ ap (λ (l : List _). put l (a.at + w.result) (back_length w.result)) w.ensures.1 ∙ stored_closed a.d.now a.at (integer a.p) w.result (sym w.ensures.0) (omega arith))
