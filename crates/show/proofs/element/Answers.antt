-- `show::element` is safe: the element of a string of at most 4,095 bytes fits 4,200. Assumes nothing.
use native.Mathlib.Omega.{arith}
use Rattle.listpack.proofs.Laws.{element_bounds}
use Rattle.show.proofs.element.Goals as goal

pub write_string-n-requires : goal.write_string-n-requires
write_string-n-requires g c = omega (arith, element_bounds c.args.s.now)

pub slice_bounds-hex-end : goal.slice_bounds-hex-end
slice_bounds-hex-end g c = omega (arith, element_bounds c.args.s.now, c.write_string-n.auto.d)
