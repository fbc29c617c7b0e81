-- `is_sound` meets its contract. Assumes nothing.
use mathlib.Core.Path.{ap, ◌∙◌}
use mathlib.Core.Bool.{Bool, not}
use Rattle.radix_bytes.specs.Bytes.{record_from}
use Rattle.radix_judge.proofs.Verdict.{sound_out, sound_root, sound_stop, sound_rest}
use Rattle.radix_judge.proofs.is_sound.Goals as goal

pub returns-then-root-ge256 : goal.returns-then-root-ge256
returns-then-root-ge256 c = sound_out (record_from c.args.s.now) c.root_of-root.result c.root_of-root.ensures.0 c.if-root-ge256.true

pub returns-then-not-root_at : goal.returns-then-not-root_at
returns-then-not-root_at c = sound_root (record_from c.args.s.now) c.root_of-root.result c.root_of-root.ensures.0 c.if-root-ge256.false c.root_at.result c.root_at.ensures (c.if-not-root_at.true)

pub returns-then-is_none : goal.returns-then-is_none
returns-then-is_none c = sound_stop (record_from c.args.s.now) c.root_of-root.result c.root_of-root.ensures.0 c.if-root-ge256.false c.root_at.result c.root_at.ensures (c.if-not-root_at.false) c.child_at-first.result c.visit.result _ c.child_at-first.ensures.0 c.visit.ensures.0 (ap not c.is_none.ensures ∙ ap (λ (b : Bool). not (not b)) c.if-is_none.true)

pub returns : goal.returns
returns c = sound_rest (record_from c.args.s.now) c.root_of-root.result c.root_of-root.ensures.0 c.if-root-ge256.false c.root_at.result c.root_at.ensures (c.if-not-root_at.false) c.child_at-first.result c.visit.result _ c.child_at-first.ensures.0 c.visit.ensures.0 (ap not c.is_none.ensures ∙ ap (λ (b : Bool). not (not b)) c.if-is_none.false) c.rest_free.result c.rest_free.ensures
