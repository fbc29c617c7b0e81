-- `listpack::write::write_back` meets its contract. Assumes nothing.
use mathlib.Core.Path.{sym, ap, ◌∙◌}
use native.Mathlib.Omega.{arith}
use Rattle.listpack.proofs.Cases.{back_is_1, back_is_2, size_back_1, size_back_2}
use Rattle.octets.specs.Place.{put}
use Rattle.listpack.proofs.write.write_back.Goals as goal

pub put_one-requires : goal.put_one-requires
put_one-requires c = let n = c.args.n in omega (arith, size_back_1 n (omega arith))

pub returns-then-n-lt128 : goal.returns-then-n-lt128
returns-then-n-lt128 c =
    let a = c.args in
    (sym (size_back_1 _ (omega arith)), c.put_one.ensures ∙ ap (put a.d.now a.at) (sym (back_is_1 a.n (omega arith))))

pub put_two-requires : goal.put_two-requires
put_two-requires c = let n = c.args.n in omega (arith, size_back_2 n (omega arith))

pub returns : goal.returns
returns c =
    let a = c.args in
    (sym (size_back_2 _ (omega arith)), c.put_two.ensures ∙ ap (put a.d.now a.at) (sym (back_is_2 a.n (omega arith))))
