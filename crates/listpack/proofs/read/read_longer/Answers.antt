-- `listpack::read::read_longer` meets its contract. Assumes nothing.
use mathlib.Core.Path.{refl, sym, ap, ◌∙◌}
use native.Mathlib.Omega.{arith}
use Rattle.listpack.proofs.Leaves.{read_text, read_short, read_long, read_tagged}
use Rattle.listpack.specs.Read.{as_integer, as_text}
use Prim.Native.Nat.{◌+◌, ◌-◌, ◌*◌}
use Rattle.listpack.proofs.read.read_longer.Goals as goal

pub returns-then-b-lt192 : goal.returns-then-b-lt192
returns-then-b-lt192 c =
    let l = c.args.b - 128 in
    c.as_text.ensures ∙ ap (as_text 1 l) c.text_stands.ensures ∙ sym (read_text _ _ _ (omega arith) (omega arith) refl (omega arith) (omega arith))

pub returns-then-b-lt224 : goal.returns-then-b-lt224
returns-then-b-lt224 c =
    let v = c.extend-v in
    c.as_integer.ensures ∙ ap (as_integer v.result 2) c.integer_stands.ensures ∙ sym (read_short _ c.args.b c.wide-c.result (omega arith) (omega arith) (omega arith) v.result v.ensures (omega arith) (omega arith))

pub returns-then-b-lt240 : goal.returns-then-b-lt240
returns-then-b-lt240 c =
    let l = 256 * (c.args.b - 224) + c.wide-c.result in
    c.as_text-then-b-lt240.ensures ∙ ap (as_text 2 l) c.text_stands-then-b-lt240.ensures ∙ sym (read_long _ _ _ (omega arith) (omega arith) (omega arith) (omega arith) (omega arith))

pub returns : goal.returns
returns c = c.read_tagged.ensures ∙ sym (read_tagged _ c.args.b _ (omega arith) (omega arith) refl (omega arith))
