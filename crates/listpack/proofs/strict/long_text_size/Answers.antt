-- Assumes nothing.
use mathlib.Core.Path.{sym, ap, ◌∙◌}
use Prim.Native.Nat.{◌+◌, ◌-◌, ◌*◌}
use native.Mathlib.Omega.{arith}
use Rattle.listpack.proofs.Forms.{back_size}
use Rattle.listpack.proofs.AtPlace.{long_over, long_bad, long_text}
use Rattle.listpack.proofs.strict.long_text_size.Goals as goal

pub returns-then-l-gt1000 : goal.returns-then-l-gt1000
returns-then-l-gt1000 c = sym (long_over _ _ (omega arith) c.requires.1 _ c.wide.ensures.0 (omega arith) (omega arith) (omega arith))

pub overflow_add-result : goal.overflow_add-result
overflow_add-result c = omega (arith, back_size (2 + (256 * (c.args.b - 224) + c.wide.result)))

pub returns-then-text_stands : goal.returns-then-text_stands
returns-then-text_stands c =
    let x = 2 + (256 * (c.args.b - 224) + c.wide.result) in
    ap (λ n. x + n) c.back_size.ensures ∙ sym (long_text _ _ (omega arith) c.requires.1 _ c.wide.ensures.0 (omega arith) (omega arith) (omega arith) (sym c.text_stands.ensures ∙ c.if-text_stands.true))

pub returns : goal.returns
returns c = sym (long_bad _ _ (omega arith) c.requires.1 _ c.wide.ensures.0 (omega arith) (omega arith) (sym c.text_stands.ensures ∙ c.if-text_stands.false))
