-- `listpack::write::write_text` meets its contract. Assumes nothing.
use mathlib.Core.Path.{◌≡◌, refl, ap, ◌∙◌}
use native.Mathlib.Omega.{arith}
use Rattle.listpack.proofs.Forms.{head_size}
use Rattle.listpack.proofs.Sizes.{text_room}
use Rattle.listpack.proofs.Writes.{stored_text}
use Prim.Native.Nat.{◌+◌}
use Rattle.listpack.specs.Element.{text, text_head, back_length, encode_item}
use lib.ListN.{length}
use mathlib.Core.List.{List}
use Rattle.octets.specs.Place.{put}
use Rattle.listpack.proofs.write.write_text.Goals as goal
use Rattle.listpack.proofs.write.write_text.Goals.{After-write_head-h}

-- the size of the element, from the size of the head on
room : (c : After-write_head-h) → length (encode_item (text c.args.s.now)) ≡ c.write_head-h.result + length c.args.s.now + length (back_length (c.write_head-h.result + length c.args.s.now))
room c = text_room _ _ c.write_head-h.ensures.0

pub write_head-h-requires : goal.write_head-h-requires
write_head-h-requires c = let s = c.args.s.now in omega (arith, text_room s (length (text_head (length s))) refl)

pub overflow_add-at : goal.overflow_add-at
overflow_add-at c = omega (arith, room (goal.at.overflow_add-at c).After-write_head-h)

pub copy_in-requires : goal.copy_in-requires
copy_in-requires c = omega (arith, room (goal.at.copy_in-requires c).After-write_head-h)

pub overflow_add-n : goal.overflow_add-n
overflow_add-n c = omega (arith, room (goal.at.overflow_add-n c).After-write_head-h)

pub overflow_add-end : goal.overflow_add-end
overflow_add-end c = omega (arith, room (goal.at.overflow_add-end c).After-write_head-h)

pub write_back-requires : goal.write_back-requires
write_back-requires c = omega (arith, head_size (length c.args.s.now), room (goal.at.write_back-requires c).After-write_head-h)

pub overflow_add-result : goal.overflow_add-result
overflow_add-result c = omega (arith, room (goal.at.overflow_add-result c).After-write_head-h)

pub returns : goal.returns
returns c =
    let a = c.args in
    let h = c.write_head-h in
    let n = h.result + length a.s.now in
    (omega (arith, room (goal.at.returns c).After-write_head-h), c.write_back.ensures.1 ∙ ap (λ (l : List _). put l (a.at + n) (back_length n)) (c.copy_in.ensures ∙ ap (λ (l : List _). put l (a.at + h.result) a.s.now) h.ensures.1) ∙ stored_text a.d.now a.at a.s.now h.result h.ensures.0 (omega arith))
