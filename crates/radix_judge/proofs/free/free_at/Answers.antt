-- `free_at` meets its contract. Assumes nothing.
use mathlib.Core.Path.{◌∙◌}
use Rattle.radix_bytes.specs.Bytes.{pool_in}
use Rattle.radix.proofs.Laws.{free_len, free_key, free_child, free_next, free_val, free_label}
use Rattle.radix_judge.proofs.Tests.{label_zero}
use Rattle.radix_judge.proofs.free.free_at.Goals as goal

pub returns-then-len_at-ne0 : goal.returns-then-len_at-ne0
returns-then-len_at-ne0 c = let x = c.args in free_len (pool_in x.s.now) x.p c.len_at.result c.len_at.ensures.0 c.if-len_at-ne0.true

pub returns-then-key_at-ne0 : goal.returns-then-key_at-ne0
returns-then-key_at-ne0 c = let x = c.args in free_key (pool_in x.s.now) x.p c.len_at.result c.len_at.ensures.0 c.if-len_at-ne0.false c.key_at.result c.key_at.ensures.0 c.if-key_at-ne0.true

pub returns-then-child_at-ne0 : goal.returns-then-child_at-ne0
returns-then-child_at-ne0 c = let x = c.args in free_child (pool_in x.s.now) x.p c.len_at.result c.len_at.ensures.0 c.if-len_at-ne0.false c.key_at.result c.key_at.ensures.0 c.if-key_at-ne0.false c.child_at.result c.child_at.ensures.0 c.if-child_at-ne0.true

pub returns-then-next_at-ne0 : goal.returns-then-next_at-ne0
returns-then-next_at-ne0 c = let x = c.args in free_next (pool_in x.s.now) x.p c.len_at.result c.len_at.ensures.0 c.if-len_at-ne0.false c.key_at.result c.key_at.ensures.0 c.if-key_at-ne0.false c.child_at.result c.child_at.ensures.0 c.if-child_at-ne0.false c.next_at.result c.next_at.ensures.0 c.if-next_at-ne0.true

pub returns-then-value_at-ne0 : goal.returns-then-value_at-ne0
returns-then-value_at-ne0 c = let x = c.args in free_val (pool_in x.s.now) x.p c.len_at.result c.len_at.ensures.0 c.if-len_at-ne0.false c.key_at.result c.key_at.ensures.0 c.if-key_at-ne0.false c.child_at.result c.child_at.ensures.0 c.if-child_at-ne0.false c.next_at.result c.next_at.ensures.0 c.if-next_at-ne0.false c.value_at.result c.value_at.ensures.0 c.if-value_at-ne0.true

pub returns : goal.returns
returns c = let x = c.args in free_label (pool_in x.s.now) x.p c.len_at.result c.len_at.ensures.0 c.if-len_at-ne0.false c.key_at.result c.key_at.ensures.0 c.if-key_at-ne0.false c.child_at.result c.child_at.ensures.0 c.if-child_at-ne0.false c.next_at.result c.next_at.ensures.0 c.if-next_at-ne0.false c.value_at.result c.value_at.ensures.0 c.if-value_at-ne0.false c.all_zero_from.result (c.all_zero_from.ensures ∙ label_zero x.s.now x.p c.requires.1)
