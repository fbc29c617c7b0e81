-- `listpack::write::write_string` meets its contract. Assumes nothing.
use mathlib.Core.Path.{ap, sym, ◌∙◌}
use native.Mathlib.Omega.{arith}
use Rattle.listpack.proofs.Strings.{element_by}
use Rattle.listpack.proofs.Writes.{next_as}
use Rattle.std.proofs.Common.{None}
use lib.ListN.{length}
use Rattle.listpack.proofs.write.write_string.Goals as goal

pub write_integer-requires : goal.write_integer-requires
write_integer-requires c =
    let s = c.args.s.now in
    omega (arith, ap length (element_by s _ (sym c.recognise-found.ensures ∙ c.in-Some.is)))

pub write_text-requires : goal.write_text-requires
write_text-requires c =
    let s = c.args.s.now in
    omega (arith, ap length (element_by s None (sym c.recognise-found.ensures ∙ c.in-None.is)))

pub returns-in-Some : goal.returns-in-Some
returns-in-Some c = next_as _ _ _ _ _ _ (element_by _ _ (sym c.recognise-found.ensures ∙ c.in-Some.is)) c.write_integer.ensures

pub returns-in-None : goal.returns-in-None
returns-in-None c = next_as _ _ _ _ _ _ (element_by _ None (sym c.recognise-found.ensures ∙ c.in-None.is)) c.write_text.ensures
