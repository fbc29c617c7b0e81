-- `write_record` meets its contract. Assumes nothing.
use mathlib.Core.Path.{◌≡◌, ap, ◌∙◌}
use borrow.Author.Rules.{rules}
use lib.ListN.{length}
use Rattle.radix_bytes.specs.Bytes.{bytes_of, record_from}
use Rattle.radix_bytes.proofs.Laws.{parts_written, record_again}
use Rattle.radix_bytes.proofs.write.write_record.Goals as goal
use Rattle.radix_bytes.proofs.write.write_record.Goals.{Start}

-- how long the arrays are
lens : (s : Start) → length s.args.x.now.len ≡ 256
lens s = search rules

keys : (s : Start) → length s.args.x.now.key ≡ 256
keys s = search rules

children : (s : Start) → length s.args.x.now.child ≡ 256
children s = search rules

nexts : (s : Start) → length s.args.x.now.next ≡ 256
nexts s = search rules

vals : (s : Start) → length s.args.x.now.val ≡ 256
vals s = search rules

labels : (s : Start) → length s.args.x.now.label ≡ 4096
labels s = search rules

pub returns : goal.returns
returns c =
    let x = c.args.x.now in
    let s = (goal.at.returns c).Start in
    let h = c.write_head in
    let t = c.write_tree in
    let v = c.write_values in
    let l = c.copy_in in
    let e : l.new.d ≡ bytes_of x =
    parts_written x c.args.out.now h.new.out t.new.out v.new.out l.new.d c.requires (lens s) (keys s) (children s) (nexts s) (vals s) (labels s) h.ensures.0 t.ensures.0 v.ensures.0 l.ensures in
    (e, ap record_from e ∙ record_again x h.ensures.1 (lens s) (keys s) (children s) t.ensures.1.0 (nexts s) t.ensures.1.1 (vals s) v.ensures.1 (labels s))
