-- `listpack::write::write_wide` meets its contract. Assumes nothing.
use mathlib.Core.Path.{sym, ap₂, ◌∙◌}
use native.Mathlib.Omega.{arith}
use Rattle.listpack.proofs.Width.{half_small, half_one}
use Rattle.listpack.proofs.Cases.{size_wide}
use Rattle.listpack.proofs.Writes.{stored_wide}
use Rattle.octets.specs.Place.{put}
use Prim.Native.Nat.{◌+◌}
use Rattle.octets.specs.Bytes.{le}
use mathlib.Core.List.{List}
use Rattle.listpack.proofs.write.write_wide.Goals as goal

pub put_one-requires : goal.put_one-requires
put_one-requires c = omega (arith, size_wide _ _ _ _ c.requires.0)

pub narrow-requires : goal.narrow-requires
narrow-requires c =
    let a = c.args in
    let k = c.requires.0 in
    (omega (arith, half_one a.w (omega arith) (omega arith)), omega (arith, half_small a.w (omega arith) (omega arith)), k.fit)

pub write_le-requires : goal.write_le-requires
write_le-requires c = omega (arith, size_wide _ _ _ _ c.requires.0)

pub returns : goal.returns
returns c =
    let a = c.args in
    let k = c.requires.0 in
    (sym (size_wide _ _ _ _ c.requires.0), c.write_le.ensures ∙ ap₂ (λ (l : List _) v. put l (a.at + 1) (le a.w v)) c.put_one.ensures c.narrow.ensures ∙ stored_wide a.d.now a.at a.p a.tag a.w a.half k (omega arith))
