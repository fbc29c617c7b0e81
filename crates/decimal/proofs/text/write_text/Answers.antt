-- `write_text` meets its contract: the sign, and the digits. Assumes nothing.
use mathlib.Core.Path.{sym, ap, ◌∙◌}
use native.Mathlib.Omega.{arith}
use lib.ListN.{length, length-set}
use Rattle.octets.specs.Place.{put}
use Rattle.decimal.proofs.Laws.{text_length}
use Rattle.decimal.proofs.Writing.{text_plus, text_minus, put_minus}
use Rattle.decimal.proofs.text.write_text.Goals as goal

pub write_natural-requires : goal.write_natural-requires
write_natural-requires c = let e = ap length (text_plus c.args.p (omega arith)) in omega arith

pub returns-then-p-lt-HALF : goal.returns-then-p-lt-HALF
returns-then-p-lt-HALF c =
    let x = c.args in
    c.write_natural.ensures ∙ ap (put x.d.now x.at) (sym (text_plus x.p (omega arith)))

pub bounds-d-at : goal.bounds-d-at
bounds-d-at c = omega (arith, text_length c.args.p)

pub write_natural-requires-2 : goal.write_natural-requires-2
write_natural-requires-2 c =
    let x = c.args in
    let e = ap length (text_minus x.p c.negated-n.result (omega arith) (omega arith)) in
    simp length-set (omega arith)

pub shape_of-d : goal.shape_of-d
shape_of-d c = c.write_natural-2.auto.d ∙ simp length-set

pub returns : goal.returns
returns c =
    let x = c.args in
    c.write_natural-2.ensures ∙ put_minus x.d.now x.at x.p _ (omega arith) (omega arith) (omega (arith, text_length x.p))
