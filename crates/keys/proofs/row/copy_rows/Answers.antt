use mathlib.Core.Path.{◌≡◌, refl, sym, ap, ◌∙◌}
use mathlib.Core.List.{List, [], ◌∷◌, ◌++◌, append-nil}
use Prim.Native.Nat.{ℕ, ◌+◌, ◌*◌, ◌-◌}
use native.Mathlib.Omega.{arith}
use lib.ListN.{get_or, take, drop, length-take}
use Rattle.octets.specs.Place.{area}
use Rattle.octets.proofs.Laws.{part_is}
use Rattle.keys.specs.Entries.{Entry, entry}
use Rattle.keys.specs.Table.{columns, tabled, row_at, table_of}
use Rattle.keys.specs.declared.Table.{Table}
use Rattle.keys.proofs.Rows.{copied, rows_none}
use Rattle.keys.proofs.Tables.{table_more}
use Rattle.keys.proofs.row.copy_rows.Goals as goal

pub loop-i-init : goal.loop-i-init
loop-i-init c = (refl, (refl, c.requires.1.1.1))

pub push-requires : goal.push-requires
push-requires c = omega (arith, c.loop-i.invariant.0, c.requires, length-take (16 * c.loop-i.i + c.row_len-m.result - 16 * c.loop-i.i) (drop (16 * c.loop-i.i) c.args.from.key))

pub loop-i-preserved : goal.loop-i-preserved
loop-i-preserved c =
    let x = c.args in
    let l = c.loop-i in
    let m = c.row_len-m in
    let t = columns x.from.len x.from.val x.from.key in
    let part = take (16 * l.i + m.result - 16 * l.i) (drop (16 * l.i) x.from.key) in
    let v = get_or x.from.val l.i 0 in
    let p : tabled c.push.new.t ≡ tabled l.t ++ (entry part v ∷ []) = c.push.ensures.0 in
    let e : entry part v ≡ row_at t l.i = ap (λ (k : List ℕ). entry k v) (part_is (16 * l.i) m.result x.from.key ∙ ap (λ (w : ℕ). area (16 * l.i) w x.from.key) m.ensures.0) in (
      omega (arith, l.invariant.0, ap (λ (u : Table). u.n) c.push.ensures.1),
      (
        copied t l.i x.b (tabled l.t) _ _ (omega arith) (p ∙ ap (λ (r : Entry). tabled l.t ++ (r ∷ [])) e) l.invariant.1.0,
        c.push.ensures.1
            ∙ table_more l.t part v l.invariant.1.1 (omega (arith, l.invariant.0, c.requires)) (omega (arith, length-take (16 * l.i + m.result - 16 * l.i) (drop (16 * l.i) x.from.key)))
            ∙ ap table_of (sym p),
      ),
    )

pub returns : goal.returns
returns c =
    let x = c.args in
    let l = c.loop-i in (
      sym (append-nil (tabled l.t)) ∙ ap (λ (es : List Entry). tabled l.t ++ es) (sym (rows_none (columns x.from.len x.from.val x.from.key) l.i _ (omega arith))) ∙ l.invariant.1.0,
      omega (arith, l.invariant.0),
      l.invariant.1.1,
    )
