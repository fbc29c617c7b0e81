-- `write_head` meets its contract. Assumes nothing.
use mathlib.Core.Path.{◌≡◌, ap, ◌∙◌}
use mathlib.Core.List.{◌++◌, append_assoc}
use native.Mathlib.Omega.{arith}
use lib.ListN.{length, length-append}
use Rattle.octets.specs.Bytes.{le}
use Rattle.octets.specs.Place.{put}
use Rattle.octets.proofs.Laws.{length_le}
use Rattle.radix_bytes.proofs.Laws.{two_written}
use Rattle.radix_bytes.proofs.write.write_head.Goals as goal

pub returns : goal.returns
returns c =
    let x = c.args in
    let p = c.requires in
    let a = le 2 x.root in
    let o1 = c.write_le.new.d in
    let o2 = c.copy_in.new.d in
    let o3 = c.copy_in-2.new.d in
    let e1 : o1 ≡ put x.out.now 0 a = c.write_le.ensures in
    let la = length_le 2 x.root in
    let e2 : o2 ≡ put x.out.now 0 (a ++ x.len.now) = two_written x.out.now o1 o2 0 a 2 x.len.now (omega (arith, la)) (omega arith) e1 c.copy_in.ensures in
    let l : length (a ++ x.len.now) ≡ 258 = length-append a x.len.now ∙ omega (arith, la, p.0) in
    (two_written x.out.now o2 o3 0 (a ++ x.len.now) 258 x.key.now (omega (arith, l)) (omega arith) e2 c.copy_in-2.ensures ∙ ap (put x.out.now 0) (append_assoc a x.len.now x.key.now), c.ranges.root.fits)
