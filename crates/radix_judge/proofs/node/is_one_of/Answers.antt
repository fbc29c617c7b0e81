-- `is_one_of` meets its contract. Assumes nothing.
use Rattle.radix_bytes.specs.Bytes.{pool_in}
use Rattle.radix_bytes.proofs.Laws.{label_size}
use Rattle.radix.proofs.Laws.{one_long, one_low, one_key, one_below}
use Rattle.radix_judge.proofs.node.is_one_of.Goals as goal

pub returns-then-label_len-ne1 : goal.returns-then-label_len-ne1
returns-then-label_len-ne1 c = let x = c.args in one_long (pool_in x.s.now) x.p c.label_len.result x.left (label_size x.s.now c.requires.0) c.requires.1 c.label_len.ensures.0 x.least c.if-label_len-ne1.true

pub returns-then-first_byte-least : goal.returns-then-first_byte-least
returns-then-first_byte-least c = let x = c.args in one_low (pool_in x.s.now) x.p c.label_len.result x.left (label_size x.s.now c.requires.0) c.requires.1 c.label_len.ensures.0 x.least c.first_byte.result c.if-label_len-ne1.false c.first_byte.ensures.0 c.if-first_byte-least.true

pub returns-then-key_at-ne0 : goal.returns-then-key_at-ne0
returns-then-key_at-ne0 c = let x = c.args in one_key (pool_in x.s.now) x.p c.label_len.result x.left (label_size x.s.now c.requires.0) c.requires.1 c.label_len.ensures.0 x.least c.first_byte.result c.if-label_len-ne1.false c.first_byte.ensures.0 c.if-first_byte-least.false c.key_at.result c.key_at.ensures.0 c.if-key_at-ne0.true

pub returns : goal.returns
returns c = let x = c.args in one_below (pool_in x.s.now) x.p c.label_len.result x.left (label_size x.s.now c.requires.0) c.requires.1 c.label_len.ensures.0 x.least c.first_byte.result c.if-label_len-ne1.false c.first_byte.ensures.0 c.if-first_byte-least.false c.key_at.result c.key_at.ensures.0 c.if-key_at-ne0.false c.child_at-below.result c.leads.result c.child_at-below.ensures.0 c.leads.ensures
