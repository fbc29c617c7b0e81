-- Assumes nothing.
use mathlib.Core.Path.{◌≡◌, sym, ap, ◌∙◌}
use Prim.Native.Nat.{◌+◌, ◌-◌}
use native.Mathlib.Omega.{arith}
use lib.ListN.{take, drop}
use Rattle.std.proofs.Common.{is_none}
use Rattle.octets.specs.Place.{area}
use Rattle.octets.proofs.Laws.{part_area}
use Rattle.decimal.specs.Integer.{pattern_of}
use Rattle.listpack.proofs.AtPlace.{text_past, text_other_back, text_number, text_is}
use Rattle.listpack.proofs.strict.short_text_size.Goals as goal
use Rattle.listpack.proofs.strict.short_text_size.Goals.{After-is_text}

-- the part that was asked
part : (c : After-is_text) → is_none (pattern_of (area 1 (c.args.b - 128) c.args.t.now)) ≡ c.is_text.result
part c =
    let a = c.args in
    let e : 1 + (a.b - 128) - 1 ≡ a.b - 128 = omega arith in
    sym (c.is_text.ensures ∙ ap (λ n. is_none (pattern_of (take n (drop 1 a.t.now)))) e ∙ ap (λ l. is_none (pattern_of l)) (part_area _ _ _))

pub returns-then-t-n : goal.returns-then-t-n
returns-then-t-n c = sym (text_past _ _ (omega arith) c.requires.1 (omega arith) (omega arith) (omega arith))

pub returns-then-wide-n : goal.returns-then-wide-n
returns-then-wide-n c = sym (text_other_back _ _ (omega arith) c.requires.1 (omega arith) (omega arith) (omega arith) (λ z. c.if-wide-n.true (omega arith)))

pub returns-then-is_text : goal.returns-then-is_text
returns-then-is_text c = sym (text_is _ _ (omega arith) c.requires.1 (omega arith) (omega arith) (omega arith) (omega arith) (part (goal.at.returns-then-is_text c).After-is_text ∙ c.if-is_text.true))

pub returns : goal.returns
returns c = sym (text_number _ _ (omega arith) c.requires.1 (omega arith) (omega arith) (omega arith) (omega arith) (part (goal.at.returns c).After-is_text ∙ c.if-is_text.false))
