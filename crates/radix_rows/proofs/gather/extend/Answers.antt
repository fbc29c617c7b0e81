-- `extend` meets its contract. Assumes nothing.
use mathlib.Core.Path.{◌≡◌, ap, ◌∙◌}
use Prim.Native.Nat.{◌*◌}
use native.Mathlib.Omega.{arith}
use lib.ListN.{take}
use Rattle.octets.specs.Place.{area, put}
use Rattle.octets.proofs.Laws.{length_area, take_put}
use Rattle.radix.proofs.Laws.{laid_on}
use Rattle.radix_bytes.specs.Bytes.{pool_in}
use Rattle.radix_bytes.proofs.Laws.{label_size}
use Rattle.radix_rows.proofs.Labelled.{label_part}
use Rattle.radix_rows.proofs.gather.extend.Goals as goal

pub returns : goal.returns
returns c = let x = c.args in let l = area (16 * x.p) x.n (pool_in x.s.now).label in let z = label_size x.s.now c.requires.1.1.0 in let e : c.copy_in.new.d ≡ put x.path.now x.d l = c.copy_in.ensures ∙ ap (put x.path.now x.d) (label_part x.s.now x.p x.n c.requires.1.1.1 (omega arith)) in (ap (take x.d) e ∙ take_put x.path.now x.d l x.d (omega (arith, c.requires.1.0)) (omega arith), laid_on x.path.now x.d x.n c.copy_in.new.d l (omega (arith, c.requires.1.0)) (length_area (16 * x.p) x.n (pool_in x.s.now).label (omega arith)) e)
