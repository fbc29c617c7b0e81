-- `find` meets its contract. Assumes nothing.
use mathlib.Core.Path.{refl, sym, ◌∙◌}
use native.Mathlib.Omega.{arith}
use Rattle.keys.specs.Operation.{find}
use Rattle.index_bytes.proofs.Steps.{judged_2, judged_sound, sound_root, find_3, find_is}
use Rattle.index_bytes.proofs.look.find.Goals as goal

pub returns-then-not-is_sound : goal.returns-then-not-is_sound
returns-then-not-is_sound c = let x = c.args in judged_2 x.bytes.now c.requires c.is_sound.result c.is_sound.ensures (find x.key.now) (c.if-not-is_sound.true)

pub returns-then-not-is_key : goal.returns-then-not-is_key
returns-then-not-is_key c = let x = c.args in find_3 x.bytes.now x.key.now (judged_sound x.bytes.now c.requires c.is_sound.result c.is_sound.ensures (c.if-not-is_sound.false)) (sym c.is_key.ensures ∙ c.if-not-is_key.true)

pub child_at-first-requires : goal.child_at-first-requires
child_at-first-requires c = let x = c.args in (c.requires, omega (arith, sound_root x.bytes.now (judged_sound x.bytes.now c.requires c.is_sound.result c.is_sound.ensures (c.if-not-is_sound.false)), c.root_of-root.ensures.0))

pub returns : goal.returns
returns c = let x = c.args in find_is x.bytes.now x.key.now (judged_sound x.bytes.now c.requires c.is_sound.result c.is_sound.ensures (c.if-not-is_sound.false)) c.root_of-root.result c.child_at-first.result _ (c.find_from.result) (sym c.is_key.ensures ∙ c.if-not-is_key.false) c.root_of-root.ensures.0 c.child_at-first.ensures.0 refl c.find_from.ensures
