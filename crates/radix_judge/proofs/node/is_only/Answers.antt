-- `is_only` meets its contract. Assumes nothing.
use Rattle.radix_bytes.specs.Bytes.{pool_in}
use Rattle.radix_bytes.proofs.Laws.{label_size}
use Rattle.radix.proofs.Laws.{only_empty, only_key, only_parted}
use Rattle.radix_judge.proofs.node.is_only.Goals as goal

pub returns-then-label_len-eq0 : goal.returns-then-label_len-eq0
returns-then-label_len-eq0 c = let x = c.args in only_empty (pool_in x.s.now) x.p c.label_len.result x.left (label_size x.s.now c.requires.0) c.requires.1 c.label_len.ensures.0 c.if-label_len-eq0.true

pub returns-then-key_at-ne0 : goal.returns-then-key_at-ne0
returns-then-key_at-ne0 c = let x = c.args in only_key (pool_in x.s.now) x.p c.label_len.result x.left (label_size x.s.now c.requires.0) c.requires.1 c.label_len.ensures.0 c.key_at.result c.if-label_len-eq0.false c.key_at.ensures.0 c.if-key_at-ne0.true

pub returns : goal.returns
returns c = let x = c.args in only_parted (pool_in x.s.now) x.p c.label_len.result x.left (label_size x.s.now c.requires.0) c.requires.1 c.label_len.ensures.0 c.key_at.result c.if-label_len-eq0.false c.key_at.ensures.0 c.if-key_at-ne0.false c.child_at-below.result c.several.result c.child_at-below.ensures.0 c.several.ensures
