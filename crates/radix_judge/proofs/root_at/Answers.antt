-- `root_at` meets its contract. Assumes nothing.
use mathlib.Core.Bool.{Bool}
use mathlib.Core.Path.{◌≡◌, sym, ap, ◌∙◌}
use native.Mathlib.Omega.{arith}
use borrow.Author.Tests.{ne_eqb}
use Prim.Native.Nat.{◌+◌, ◌*◌}
use Rattle.octets.specs.Pick.{both}
use Rattle.octets.specs.Place.{area}
use Rattle.octets.specs.Compare.{all_zero}
use Rattle.radix.specs.Record.{is_root, is_tidy}
use Rattle.radix_bytes.specs.Bytes.{labels_at, pool_in}
use Rattle.radix_judge.proofs.Tests.{root_value, root_label}
use Rattle.radix_judge.proofs.root_at.Goals as goal
use Rattle.radix_judge.proofs.root_at.Goals.{After-zero_word}

is_label : (c : After-zero_word) → let x = c.args in both (is_root (pool_in x.s.now) x.p) (is_tidy (pool_in x.s.now) x.p) ≡ both (all_zero (area (labels_at + 16 * x.p) 8 x.s.now)) (all_zero (area (labels_at + 16 * x.p + 8) 8 x.s.now))
is_label c = let x = c.args in root_label x.s.now x.p (sym c.len_at.ensures.0 ∙ c.if-len_at-ne0.false) (sym c.key_at.ensures.0 ∙ c.if-key_at-ne0.false) (sym c.next_at.ensures.0 ∙ c.if-next_at-ne0.false) (sym c.value_at.ensures.0 ∙ c.if-value_at-ne0.false) c.requires.1 (omega (arith, c.requires.0))

pub returns-then-len_at-ne0 : goal.returns-then-len_at-ne0
returns-then-len_at-ne0 c = rw (← c.len_at.ensures.0, ne_eqb _ _ c.if-len_at-ne0.true)

pub returns-then-key_at-ne0 : goal.returns-then-key_at-ne0
returns-then-key_at-ne0 c = rw (← c.len_at.ensures.0, c.if-len_at-ne0.false, ← c.key_at.ensures.0, ne_eqb _ _ c.if-key_at-ne0.true)

pub returns-then-next_at-ne0 : goal.returns-then-next_at-ne0
returns-then-next_at-ne0 c = rw (← c.len_at.ensures.0, c.if-len_at-ne0.false, ← c.key_at.ensures.0, c.if-key_at-ne0.false, ← c.next_at.ensures.0, ne_eqb _ _ c.if-next_at-ne0.true)

pub returns-then-value_at-ne0 : goal.returns-then-value_at-ne0
returns-then-value_at-ne0 c = let x = c.args in root_value x.s.now x.p (sym c.len_at.ensures.0 ∙ c.if-len_at-ne0.false) (sym c.key_at.ensures.0 ∙ c.if-key_at-ne0.false) (sym c.next_at.ensures.0 ∙ c.if-next_at-ne0.false) (λ z. c.if-value_at-ne0.true (c.value_at.ensures.0 ∙ z))

pub returns-then-not-zero_word : goal.returns-then-not-zero_word
returns-then-not-zero_word c = let x = c.args in sym (is_label (goal.at.returns-then-not-zero_word c).After-zero_word ∙ ap (λ (t : Bool). both t (all_zero (area (labels_at + 16 * x.p + 8) 8 x.s.now))) (sym c.zero_word.ensures ∙ c.if-not-zero_word.true))

pub returns : goal.returns
returns c = let x = c.args in c.zero_word-2.ensures ∙ sym (is_label (goal.at.returns c).After-zero_word ∙ ap (λ (t : Bool). both t (all_zero (area (labels_at + 16 * x.p + 8) 8 x.s.now))) (sym c.zero_word.ensures ∙ c.if-not-zero_word.false))
