-- The rows of a map, ready to be laid; and the record that they make. Assumes nothing.
use mathlib.Core.Bool.{true}
use mathlib.Core.Path.{◌≡◌, refl, sym, ap, ap₂, ◌∙◌, subst⁻¹}
use mathlib.Core.List.{List, [], ◌∷◌}
use Prim.Native.Nat.{ℕ, ◌+◌, ◌-◌, ◌≤◌}
use native.Mathlib.Nat.{sub-zero}
use native.Mathlib.Omega.{arith}
use lib.Dec.{eqb}
use lib.ListN.{length, set}
use Rattle.octets.specs.Pick.{pick}
use Rattle.radix.specs.declared.Index.{Index}
use Rattle.keys.specs.Entries.{Entry, rising, is_map}
use Rattle.radix.specs.Shape.{Shape, nodes, cut, shape, node_count}
use Rattle.radix.specs.Record.{Nodes}
use Rattle.keys.specs.Table.{Columns, rows_from}
use Rattle.radix.specs.Layout.{laid, blank, place_shape, record_of, record_is}
use Rattle.radix.specs.Sprout.{sprout}
use Rattle.radix.specs.Rows.{rest_at, Ready}
use Rattle.radix.proofs.Keys.{From}
use Rattle.keys.proofs.Laws.{map_length, map_rising, map_fit, length_rows}
use Rattle.radix.proofs.Fits.{fit_from}
use Rattle.radix.proofs.Bounds.{nodes_suffice}
use Rattle.radix.proofs.Laying.{from_long}
use Rattle.radix.proofs.Sprouts.{shape_sprout}
use Rattle.radix.proofs.Growing.{link_is}

cut_zero : (es : List Entry) → cut 0 es ≡ es
unfolding cut
cut_zero [] = refl
cut_zero (e ∷ es) = ap (λ (z : List Entry). e ∷ z) (cut_zero es)

pub nodes_most : (es : List Entry) → is_map es ≡ true → nodes (shape es) ≤ 253
unfolding node_count
nodes_most es m = omega (arith, nodes_suffice es m)

module _ (t : Columns) (n : ℕ) (m : is_map (rows_from t 0 n) ≡ true) where
  all_rows : rest_at t 0 0 n ≡ rows_from t 0 n
  all_rows = cut_zero (rows_from t 0 (n - 0)) ∙ ap (rows_from t 0) (sub-zero n)

  pub shape_rows : sprout 80 true (rest_at t 0 0 n) ≡ shape (rows_from t 0 n)
  shape_rows = ap (sprout 80 true) all_rows ∙ shape_sprout (rows_from t 0 n) m

  few : n ≤ 64
  few = omega (arith, map_length (rows_from t 0 n) m, length_rows t 0 n)

  pub ready_all : length t.key ≡ 1024 → Ready t 80 true 0 n 0 1
  ready_all k =
      let f : From 0 (cut 0 (rows_from t 0 n)) = subst⁻¹ (From 0) (cut_zero (rows_from t 0 n)) (fit_from (rows_from t 0 n) (map_fit (rows_from t 0 n) m)) in
      record {
        order = omega arith;
        most = few;
        deep = omega arith;
        keys = k;
        long = λ i p q. from_long t 0 k 0 n (omega (arith, few)) f i p (omega arith);
        rises = ap rising all_rows ∙ map_rising (rows_from t 0 n) m;
        room = omega (arith, ap nodes shape_rows, nodes_most (rows_from t 0 n) m);
      }

pub built : (es : List Entry) (s : Shape) (end c : ℕ) (y : Nodes) → s ≡ shape es → end ≡ 1 + nodes s → y ≡ laid s 1 blank → c ≡ pick (eqb 1 end) 0 end
    → ◌≡◌ {A = Index} (record { root = 0; len = y.len; key = y.key; child = set y.child 0 c; next = y.next; val = y.val; label = y.label }) (record_of es)
unfolding place_shape
built es s end c y es_shape ee ey ec =
    ap₂ (λ (z : Nodes) (k : ℕ). record { root = 0; len = z.len; key = z.key; child = set z.child 0 k; next = z.next; val = z.val; label = z.label })
    ey (ec ∙ ap (λ (k : ℕ). pick (eqb 1 k) 0 k) ee ∙ link_is 1 s)
    ∙ ap place_shape es_shape
    ∙ sym (record_is es)
