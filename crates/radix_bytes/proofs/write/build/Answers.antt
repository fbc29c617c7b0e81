-- `build` meets its contract. Assumes nothing.
use mathlib.Core.Path.{refl, ap, ◌∙◌}
use Rattle.radix.specs.Layout.{blank}
use Rattle.radix_bytes.specs.Bytes.{bytes_of}
use Rattle.radix_bytes.proofs.write.build.Goals as goal

pub build-requires : goal.build-requires
unfolding blank
build-requires c = (c.requires.0, refl)

pub returns : goal.returns
returns c =
    let w = c.write_record.ensures in
    let e = c.build.ensures in
    (w.0 ∙ ap bytes_of e, w.1 ∙ e)
