-- `copy_padded` meets its contract: the bytes and the zeros after them. Assumes nothing.
use mathlib.Core.Path.{ap, ◌∙◌}
use mathlib.Core.List.{List}
use Prim.Native.Nat.{ℕ, ◌+◌, ◌-◌}
use native.Mathlib.Omega.{arith}
use lib.ListN.{length}
use Rattle.octets.specs.Bytes.{zeros}
use Rattle.octets.specs.Place.{put}
use Rattle.octets.proofs.Laws.{put_append}
use Rattle.group_body.proofs.reading.copy_padded.Goals as goal

pub returns : goal.returns
returns c =
    let s = c.args.s.now in
    let z : List ℕ = zeros (c.args.room - length s) in
    c.zero.ensures
    ∙ ap (λ (l : List ℕ). put l (c.args.at + length s) z) c.copy_in.ensures
    ∙ put_append c.args.d.now c.args.at s z (omega arith)
