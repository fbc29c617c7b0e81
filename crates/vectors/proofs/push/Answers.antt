-- `vectors::push` leaves a byte after the element: it takes at most 9 bytes more than the string. Assumes nothing.
use Rattle.std.proofs.Common.{arith}
use Rattle.listpack.proofs.Laws.{element_bounds}
use Rattle.vectors.proofs.push.Goals as goal

pub write_string-requires : goal.write_string-requires
write_string-requires c = omega (arith, element_bounds c.args.s.now)

pub returns : goal.returns
returns c = omega (arith, element_bounds c.args.s.now, c.write_string.auto.d)
