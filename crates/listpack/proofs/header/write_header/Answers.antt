-- `listpack::header::write_header` meets its contract. Assumes nothing.
use mathlib.Core.Path.{ap, ◌∙◌}
use Rattle.listpack.proofs.Writes.{stored_header}
use Rattle.octets.specs.Place.{put}
use Rattle.octets.specs.Bytes.{le}
use mathlib.Core.List.{List}
use Rattle.listpack.proofs.header.write_header.Goals as goal

pub returns : goal.returns
returns c =
    let a = c.args in
    c.write_le-2.ensures ∙ ap (λ (l : List _). put l 4 (le 2 a.count)) c.write_le.ensures ∙ stored_header _ _ _
