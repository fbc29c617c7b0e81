-- `write_tree` meets its contract. Assumes nothing.
use native.Mathlib.Omega.{arith}
use Rattle.radix_bytes.specs.Bytes.{word_bytes}
use Rattle.radix_bytes.proofs.Words.{length_words}
use Rattle.radix_bytes.proofs.Laws.{two_written}
use Rattle.radix_bytes.proofs.write.write_tree.Goals as goal

pub returns : goal.returns
returns c =
    let x = c.args in
    let p = c.requires in
    let e1 = c.write_links.ensures in
    let e2 = c.write_links-2.ensures in
    (two_written x.out.now c.write_links.new.out c.write_links-2.new.out 514 (word_bytes 2 x.child.now) 1026 (word_bytes 2 x.next.now) (omega (arith, length_words 2 x.child.now, p.0)) (omega (arith, p.1.1)) e1.0 e2.0, (e1.1, e2.1))
