-- Assumes nothing.
use mathlib.Core.Path.{sym, ◌∙◌}
use native.Mathlib.Omega.{arith}
use Rattle.listpack.proofs.Leaves.{tag_16, tag_24, tag_32, tag_64, tag_none}
use Rattle.listpack.proofs.AtPlace.{text_pattern, tag_pattern, none_pattern}
use Rattle.listpack.proofs.strict.long_integer.Goals as goal

pub returns-then-b-lt192 : goal.returns-then-b-lt192
returns-then-b-lt192 c = sym (text_pattern c.args.t.now c.args.b (omega arith) c.requires.1 (omega arith) (omega arith))

pub returns-then-b-eq241 : goal.returns-then-b-eq241
returns-then-b-eq241 c = c.wide_integer.ensures ∙ tag_pattern c.args.t.now c.args.b (omega arith) c.requires.1 (omega arith) _ (tag_16 _ (omega arith))

pub returns-then-b-eq242 : goal.returns-then-b-eq242
returns-then-b-eq242 c = c.wide_integer-then-b-eq242.ensures ∙ tag_pattern c.args.t.now c.args.b (omega arith) c.requires.1 (omega arith) _ (tag_24 _ (omega arith) (omega arith))

pub returns-then-b-eq243 : goal.returns-then-b-eq243
returns-then-b-eq243 c = c.wide_integer-then-b-eq243.ensures ∙ tag_pattern c.args.t.now c.args.b (omega arith) c.requires.1 (omega arith) _ (tag_32 _ (omega arith) (omega arith) (omega arith))

pub returns-then-b-eq244 : goal.returns-then-b-eq244
returns-then-b-eq244 c = c.wide_integer-then-b-eq244.ensures ∙ tag_pattern c.args.t.now c.args.b (omega arith) c.requires.1 (omega arith) _ (tag_64 _ (omega arith) (omega arith) (omega arith) (omega arith))

pub returns : goal.returns
returns c = sym (none_pattern c.args.t.now c.args.b (omega arith) c.requires.1 (omega arith) (tag_none _ (omega arith) (omega arith) (omega arith) (omega arith)))
