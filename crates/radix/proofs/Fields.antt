-- The fields of a record made of a map: how long they are, and that their numbers fit. Assumes nothing.
use mathlib.Core.Bool.{true}
use mathlib.Core.Path.{◌≡◌, ◌∙◌, subst⁻¹}
use mathlib.Core.List.{List, [], ◌∷◌, ◌++◌}
use Rattle.std.proofs.Common.{Option, Some, None}
use Prim.Native.Nat.{ℕ, zero, suc, ◌+◌, ◌^◌, ◌≤◌, ◌<◌}
use native.Mathlib.Omega.{arith}
use borrow.Author.Tests.{ltb-true}
use lib.Dec.{leb, ltb}
use lib.ListN.{length, set, length-set}
use Rattle.octets.specs.Pick.{both}
use Rattle.octets.specs.Bytes.{zeros}
use Rattle.octets.proofs.Laws.{both_true}
use Rattle.keys.specs.Entries.{Entry, entry, is_map}
use Rattle.radix.specs.declared.Index.{Index}
use Rattle.radix.specs.Shape.{Shape, nil, node, nodes, shape}
use Rattle.radix.specs.Record.{Nodes}
use Rattle.radix.specs.Gathering.{with_own, gathered}
use Rattle.radix.specs.Layout.{value_or0, link_to, laid, blank, place_shape, record_of, record_is}
use Rattle.radix.proofs.Whole.{need_some, bind_some, shape_gathered}
use Rattle.radix.proofs.Built.{nodes_most}
use Rattle.radix.proofs.Cells.{Labels}
use Rattle.radix.proofs.Readback.{pool_long}

-- every number is below b
abbrev pub AllBelow : ℕ → List ℕ → Type 0
AllBelow b [] = Unit {0}
AllBelow b (x ∷ xs) = (x < b) × AllBelow b xs

below_set : (b : ℕ) (xs : List ℕ) (i v : ℕ) → v < b → AllBelow b xs → AllBelow b (set xs i v)
below_set b [] i v h a = tt
below_set b (x ∷ xs) zero v h a = (h, a.1)
below_set b (x ∷ xs) (suc i) v h a = (a.0, below_set b xs i v h a.1)

below_zeros : (b n : ℕ) → 0 < b → AllBelow b (zeros n)
below_zeros b zero h = tt
below_zeros b (suc n) h = (h, below_zeros b n h)

-- values of 32 bits
abbrev Values : Shape → Type 0
Values nil = Unit {0}
Values (node l v below later) = (value_or0 v < 2 ^ 32) × (Values below × Values later)

own_small : (k : List ℕ) (v : Option ℕ) (old all : List Entry) → with_own k v old ≡ Some all → value_or0 v < 2 ^ 32
own_small k None old all e = omega arith
own_small k (Some v) old all e =
    let p = need_some (both (ltb (length old) 64) (ltb v (2 ^ 32))) (Some (old ++ (entry k v ∷ []))) e in
    ltb-true v (2 ^ 32) (both_true (ltb (length old) 64) (ltb v (2 ^ 32)) p.0).1

values_small : (before : List ℕ) (s : Shape) (old all : List Entry) → gathered before s old ≡ Some all → Values s
unfolding gathered
values_small before nil old all e = tt
values_small before (node l v below later) old all e =
    let n = need_some (leb (length before + length l) 16) _ e in
    let o = bind_some (with_own (before ++ l) v old) _ n.1 in
    let b = bind_some (gathered (before ++ l) below o.0) (gathered before later) o.2 in
    (own_small (before ++ l) v old o.0 o.1, (values_small (before ++ l) below o.0 b.0 b.1, values_small before later b.0 all b.2))

-- links and values
record Fitting (x : Nodes) : Type 0 where
  child : AllBelow 65536 x.child
  next : AllBelow 65536 x.next
  val : AllBelow (2 ^ 32) x.val

link_fits : (n : ℕ) (s : Shape) → n + nodes s ≤ 256 → link_to n s < 65536
link_fits n nil h = omega arith
link_fits n (node l v below later) h = omega arith

laid_fits : (s : Shape) (n : ℕ) (x : Nodes) → Values s → n + nodes s ≤ 256 → Fitting x → Fitting (laid s n x)
unfolding laid nodes
laid_fits nil n x w h f = f
laid_fits (node l v below later) n x w h f =
    let m = n + nodes later in
    let g = laid_fits below m (laid later n x) w.1.0 (omega arith) (laid_fits later n x w.1.1 (omega arith) f) in
    let y = laid below m (laid later n x) in
    record {
      child = below_set 65536 y.child (m + nodes below) (link_to m below) (link_fits m below (omega arith)) g.child;
      next = below_set 65536 y.next (m + nodes below) (link_to n later) (link_fits n later (omega arith)) g.next;
      val = below_set (2 ^ 32) y.val (m + nodes below) (value_or0 v) w.0 g.val;
    }

blank_fits : Fitting blank
unfolding blank
blank_fits =
    record { child = below_zeros 65536 256 (omega arith); next = below_zeros 65536 256 (omega arith); val = below_zeros (2 ^ 32) 256 (omega arith) }

-- what the types of a record's fields say
pub record Fields (x : Index) : Type 0 where
  pub root : x.root < 65536
  pub len : length x.len ≡ 256
  pub key : length x.key ≡ 256
  pub child : length x.child ≡ 256
  pub child_fit : AllBelow 65536 x.child
  pub next : length x.next ≡ 256
  pub next_fit : AllBelow 65536 x.next
  pub val : length x.val ≡ 256
  pub val_fit : AllBelow (2 ^ 32) x.val
  pub label : length x.label ≡ 4096

placed_fields : (s : Shape) → Labels s → Values s → 1 + nodes s ≤ 256 → Fields (place_shape s)
unfolding place_shape
placed_fields s l w h =
    let g = pool_long s l h in
    let f = laid_fits s 1 blank w h blank_fits in
    record {
      root = omega arith;
      len = g.len;
      key = g.key;
      child = length-set (laid s 1 blank).child 0 (link_to 1 s) ∙ g.child;
      child_fit = below_set 65536 (laid s 1 blank).child 0 (link_to 1 s) (link_fits 1 s h) f.child;
      next = g.next;
      next_fit = f.next;
      val = g.val;
      val_fit = f.val;
      label = g.label;
    }

pub fields_of_lem : (es : List Entry) → is_map es ≡ true → Labels (shape es) → Fields (record_of es)
fields_of_lem es m l =
    let h = nodes_most es m in
    subst⁻¹ Fields (record_is es) (placed_fields (shape es) l (values_small [] (shape es) [] es (shape_gathered es m)) (omega arith))
