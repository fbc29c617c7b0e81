-- `with_own` meets its contract: a key node's row is written after the others. Assumes nothing.
use mathlib.Core.Path.{sym, ap, ◌∙◌, subst}
use mathlib.Core.List.{[], ◌∷◌, ◌++◌}
use Prim.Native.Nat.{ℕ, ◌<◌, ◌^◌}
use native.Mathlib.Omega.{arith}
use Rattle.keys.specs.Entries.{entry}
use Rattle.keys.specs.declared.Table.{Table}
use Rattle.keys.specs.Table.{tabled, table_of}
use Rattle.keys.proofs.Laws.{length_rows, table_more}
use Rattle.radix.proofs.Laws.{own_none, own_full, own_added}
use Rattle.radix_rows.proofs.gather.with_own.Goals as goal

pub returns-then-key_at-eq0 : goal.returns-then-key_at-eq0
returns-then-key_at-eq0 c = (own_none _ _ _ _ _ (length_rows _ 0 _) (sym c.key_at.ensures.0 ∙ c.if-key_at-eq0.true), c.requires.0)

pub returns-then-t-ge64 : goal.returns-then-t-ge64
returns-then-t-ge64 c = (own_full _ _ _ _ _ (length_rows _ 0 _) (λ z. c.if-key_at-eq0.false (c.key_at.ensures.0 ∙ z)) c.if-t-ge64.true, tt)

pub returns : goal.returns
returns c =
    let x = c.args in
    let v = c.value_at in
    let e = c.push.ensures in
    let w : v.result < 2 ^ 32 = v.ensures.1 in
    let i = c.if-t-ge64.false in (
      own_added _ _ _ _ _ (length_rows _ 0 _) (λ z. c.if-key_at-eq0.false (c.key_at.ensures.0 ∙ z)) i (subst (λ (w : ℕ). w < 2 ^ 32) v.ensures.0 w) _ (e.0 ∙ ap (λ (w : ℕ). tabled x.t.now ++ (entry x.key.now w ∷ [])) v.ensures.0),
      record {
        rows = omega (arith, ap (λ (u : Table). u.n) e.1);
        exact = e.1 ∙ table_more x.t.now x.key.now v.result c.requires.0.exact i (omega (arith, c.requires)) ∙ ap table_of (sym e.0);
      },
    )
