-- `listpack::write::write_body` meets its contract. Assumes nothing.
use mathlib.Core.Path.{◌≡◌, sym, ap, ◌∙◌}
use native.Mathlib.Omega.{arith}
use Rattle.listpack.proofs.Width.{narrow_lt}
use Rattle.listpack.proofs.Cases.{body_is_1, body_is_2, size_1, size_2}
use Rattle.octets.specs.Place.{put}
use Prim.Native.Nat.{◌+◌, ◌/◌, ◌%◌}
use Rattle.listpack.specs.Width.{fits}
use mathlib.Core.List.{[], ◌∷◌}
use mathlib.Core.Bool.{true}
use Rattle.listpack.proofs.write.write_body.Goals as goal

pub put_one-requires : goal.put_one-requires
put_one-requires c = let p = c.args.p in omega (arith, size_1 p (omega arith))

pub returns-then-p-lt128 : goal.returns-then-p-lt128
returns-then-p-lt128 c =
    let a = c.args in
    (sym (size_1 _ (omega arith)), c.put_one.ensures ∙ ap (put a.d.now a.at) (sym (body_is_1 a.p (omega arith))))

pub narrow-v-requires : goal.narrow-v-requires
narrow-v-requires c = (omega arith, omega arith, cc)

pub put_two-requires : goal.put_two-requires
put_two-requires c =
    let p = c.args.p in
    let f : fits 4096 p ≡ true = cc in
    omega (arith, size_2 p (omega arith) f, narrow_lt 4096 (omega arith) p (omega arith) f)

pub returns-then-fits : goal.returns-then-fits
returns-then-fits c =
    let a = c.args in
    let f : fits 4096 a.p ≡ true = cc in
    (sym (size_2 _ (omega arith) f), c.put_two.ensures ∙ ap (λ v. put a.d.now a.at ((192 + v / 256) ∷ (v % 256) ∷ [])) c.narrow-v.ensures ∙ ap (put a.d.now a.at) (sym (body_is_2 a.p (omega arith) f)))

pub wide_form-requires : goal.wide_form-requires
wide_form-requires c = (omega arith, cc)

pub write_form-requires : goal.write_form-requires
write_form-requires c = (c.wide_form.ensures, c.requires)

pub returns : goal.returns
returns c = c.write_form.ensures
