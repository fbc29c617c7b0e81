-- `fits` meets its contract: test by test. Assumes nothing.
use Rattle.radix_bytes.specs.Bytes.{pool_in}
use Rattle.radix_judge.proofs.Tests.{fit_tidy, fit_rule, fit_short, fit_few, fit_value}
use Rattle.radix_judge.proofs.node.fits.Goals as goal

pub returns-then-not-tidy_at : goal.returns-then-not-tidy_at
returns-then-not-tidy_at c = let x = c.args in fit_tidy x.first x.least x.left (pool_in x.s.now) x.p x.d x.n _ c.tidy_at.ensures (c.if-not-tidy_at.true)

pub returns-then-not-rule : goal.returns-then-not-rule
returns-then-not-rule c = let x = c.args in fit_rule x.first x.least x.left (pool_in x.s.now) x.p x.d x.n _ c.tidy_at.ensures (c.if-not-tidy_at.false) _ c.rule.ensures (c.if-not-rule.true)

pub returns-then-d-label_len-gt16 : goal.returns-then-d-label_len-gt16
returns-then-d-label_len-gt16 c = let x = c.args in fit_short x.first x.least x.left (pool_in x.s.now) x.p x.d x.n _ c.tidy_at.ensures (c.if-not-tidy_at.false) _ c.rule.ensures (c.if-not-rule.false) c.label_len.result c.label_len.ensures.0 c.if-d-label_len-gt16.true

pub returns-then-n-key_at-gt64 : goal.returns-then-n-key_at-gt64
returns-then-n-key_at-gt64 c = let x = c.args in fit_few x.first x.least x.left (pool_in x.s.now) x.p x.d x.n _ c.tidy_at.ensures (c.if-not-tidy_at.false) _ c.rule.ensures (c.if-not-rule.false) c.label_len.result c.label_len.ensures.0 c.if-d-label_len-gt16.false c.key_at.result c.key_at.ensures.0 c.if-n-key_at-gt64.true

pub returns : goal.returns
returns c = let x = c.args in fit_value x.first x.least x.left (pool_in x.s.now) x.p x.d x.n _ c.tidy_at.ensures (c.if-not-tidy_at.false) _ c.rule.ensures (c.if-not-rule.false) c.label_len.result c.label_len.ensures.0 c.if-d-label_len-gt16.false c.key_at.result c.key_at.ensures.0 c.if-n-key_at-gt64.false _ c.is_value.ensures
