-- `grow` meets its contract: it lays what `sprout` makes of the rows. Assumes nothing.
use mathlib.Core.Bool.{Bool, true, false}
use mathlib.Core.Path.{◌≡◌, refl, sym, ap, ap₂, ◌∙◌, subst}
use mathlib.Core.List.{List}
use Rattle.std.proofs.Common.{Some, None}
use Prim.Native.Nat.{ℕ, ◌+◌, ◌*◌, ◌-◌, ◌<◌, ◌≤◌}
use native.Mathlib.Omega.{arith}
use lib.Dec.{eqb}
use lib.ListN.{get_or, drop, length-take}
use Rattle.octets.specs.Pick.{pick}
use Rattle.octets.specs.Place.{area}
use Rattle.octets.proofs.Laws.{part_is}
use Rattle.radix.specs.Shape.{Shape, node, nodes}
use Rattle.radix.specs.Record.{Nodes, nodes_of}
use Rattle.keys.specs.Entries.{length_of}
use Rattle.keys.specs.Table.{Columns, columns}
use Rattle.radix.specs.Layout.{laid, with_cell, flag_of, value_or0}
use Rattle.radix.specs.Sprout.{sprout}
use Rattle.radix.specs.Rows.{rest_at, Ready}
use Rattle.radix.proofs.Laying.{rest_nil}
use Rattle.radix.proofs.Sprouts.{sprout_none}
use Rattle.radix.proofs.Growing.{label_fits, grown, ready_later, ready_below, place_within, laid_step, laid_none, sprout_end, link_small}
use Rattle.radix.proofs.construction.+grow.Goals as goal
use Rattle.radix.proofs.construction.+grow.Goals.{After-stretch_of-n, After-wide_place-skip}

-- the label is within its row
fits : (t : ℕ) (c : After-stretch_of-n t) → c.args.d + c.stretch_of-n.result ≤ length_of c.args.t.now.len c.args.a
fits t c =
    let x = c.args in
    let less : x.a < x.b = omega (arith, c.requires.order) in
    label_fits (columns x.t.now.len x.t.now.val x.t.now.key) x.left x.first x.a x.b x.d x.at c.requires less c.group_end-m.result c.stretch_of-n.result c.group_end-m.ensures c.stretch_of-n.ensures

-- what is known once the code has looked at the rows: m, the end of the group, and n, the length of its label
module _ (t : ℕ) (c : After-wide_place-skip t) where
  table : Columns
  table = let x = c.args in columns x.t.now.len x.t.now.val x.t.now.key

  less : c.args.a < c.args.b
  less = omega (arith, c.requires.order)

  more : 0 < c.args.left
  more = omega arith

  ends : Bool
  ends = eqb (length_of c.args.t.now.len c.args.a) (c.args.d + c.stretch_of-n.result)

  skip : c.wide_place-skip.result ≡ pick ends 1 0
  unfolding ends
  skip = c.wide_place-skip.ensures.0 ∙ c.flag_of.ensures.0 ∙ ap flag_of c.own_row-own.ensures ∙ flag_is ends _
    where
      flag_is : (t : Bool) (v : ℕ) → flag_of (pick t (Some v) None) ≡ pick t 1 0
      flag_is true v = refl
      flag_is false v = refl

  later : Shape
  later = let x = c.args in sprout (x.left - 1) false (rest_at table x.d c.group_end-m.result x.b)

  below : Shape
  below = let x = c.args in sprout (x.left - 1) true (rest_at table (x.d + c.stretch_of-n.result) (x.a + c.wide_place-skip.result) c.group_end-m.result)

  made : let x = c.args in
      sprout x.left x.first (rest_at table x.d x.a x.b)
      ≡ node (area (16 * x.a + x.d) c.stretch_of-n.result x.t.now.key) (pick ends (Some (get_or x.t.now.val x.a 0)) None) below later
  unfolding ends later below table
  made =
      let x = c.args in
      grown table x.left x.first x.a x.b x.d x.at c.requires less c.group_end-m.result c.stretch_of-n.result c.group_end-m.ensures c.stretch_of-n.ensures ends refl more
      ∙ ap (λ (k : ℕ). node (area (16 * x.a + x.d) c.stretch_of-n.result x.t.now.key) (pick ends (Some (get_or x.t.now.val x.a 0)) None)
      (sprout (x.left - 1) true (rest_at table (x.d + c.stretch_of-n.result) (x.a + k) c.group_end-m.result)) later) (sym skip)

  later_ready : let x = c.args in Ready table (x.left - 1) false c.group_end-m.result x.b x.d x.at
  unfolding table
  later_ready =
      let x = c.args in
      ready_later table x.left x.first x.a x.b x.d x.at c.requires less c.group_end-m.result c.stretch_of-n.result c.group_end-m.ensures c.stretch_of-n.ensures _ refl more

  below_ready : (f : ℕ) → f ≡ c.args.at + nodes later
      → let x = c.args in Ready table (x.left - 1) true (x.a + c.wide_place-skip.result) c.group_end-m.result (x.d + c.stretch_of-n.result) f
  unfolding ends later table
  below_ready f e =
      let x = c.args in
      subst (λ (k : ℕ). Ready table (x.left - 1) true (x.a + k) c.group_end-m.result (x.d + c.stretch_of-n.result) f) (sym skip)
      (ready_below table x.left x.first x.a x.b x.d x.at c.requires less c.group_end-m.result c.stretch_of-n.result c.group_end-m.ensures c.stretch_of-n.ensures ends refl more f e)

  place : c.args.at + nodes later + nodes below < 256
  unfolding ends later below table
  place =
      let x = c.args in
      subst (λ (k : ℕ). x.at + nodes later + nodes (sprout (x.left - 1) true (rest_at table (x.d + c.stretch_of-n.result) (x.a + k) c.group_end-m.result)) < 256) (sym skip)
      (place_within table x.left x.first x.a x.b x.d x.at c.requires less c.group_end-m.result c.stretch_of-n.result c.group_end-m.ensures c.stretch_of-n.ensures ends refl more)

pub returns-then-left-eq0 : goal.returns-then-left-eq0
returns-then-left-eq0 t c =
    let x = c.args in
    laid_none x.at (nodes_of x.x.now) (sprout_end x.left x.first _ c.if-left-eq0.true)

pub returns-then-a-b : goal.returns-then-a-b
returns-then-a-b t c =
    let x = c.args in
    laid_none x.at (nodes_of x.x.now)
    (sprout_none x.left x.first _ (rest_nil (columns x.t.now.len x.t.now.val x.t.now.key) x.d x.a x.b c.if-a-b.true))

pub overflow_add-d : goal.overflow_add-d
overflow_add-d t c = omega (arith, fits t (goal.at.overflow_add-d t c).After-stretch_of-n)

pub grow-f-requires : goal.grow-f-requires
unfolding table
grow-f-requires t c = (omega arith, later_ready t (goal.at.grow-f-requires t c).After-wide_place-skip)

pub overflow_add-d-2 : goal.overflow_add-d-2
overflow_add-d-2 t c = omega (arith, fits t (goal.at.overflow_add-d-2 t c).After-stretch_of-n)

pub grow-g-requires : goal.grow-g-requires
unfolding table later
grow-g-requires t c = (
  omega arith,
  below_ready t (goal.at.grow-g-requires t c).After-wide_place-skip c.grow-f.result c.grow-f.ensures.0,
)

pub overflow_add-from-2 : goal.overflow_add-from-2
overflow_add-from-2 t c = omega (arith, fits t (goal.at.overflow_add-from-2 t c).After-stretch_of-n)

pub slice_bounds-put_node-end : goal.slice_bounds-put_node-end
slice_bounds-put_node-end t c = omega (arith, fits t (goal.at.slice_bounds-put_node-end t c).After-stretch_of-n, c.requires.keys, c.requires.most)

pub put_node-requires : goal.put_node-requires
unfolding table later below
put_node-requires t c =
    let x = c.args in
    let f = fits t (goal.at.put_node-requires t c).After-stretch_of-n in
    let from = 16 * x.a + x.d in
    let p : c.grow-g.result < 256 = omega (arith, place t (goal.at.put_node-requires t c).After-wide_place-skip, c.grow-g.ensures.0, c.grow-f.ensures.0) in (
      p,
      (
        omega (arith, f, length-take (from + c.stretch_of-n.result - from) (drop from x.t.now.key)),
        (
          subst (λ (k : ℕ). k < 65536) (sym c.link_over.ensures) (link_small c.grow-f.result c.grow-g.result (omega arith)),
          subst (λ (k : ℕ). k < 65536) (sym c.link_over-2.ensures) (link_small x.at c.grow-f.result (omega (arith, c.grow-g.ensures.0))),
        ),
      ),
    )

pub overflow_add-result : goal.overflow_add-result
unfolding table later below
overflow_add-result t c = omega (arith, place t (goal.at.overflow_add-result t c).After-wide_place-skip, c.grow-g.ensures.0, c.grow-f.ensures.0)

pub returns : goal.returns
unfolding table later below ends
returns t c =
    let x = c.args in
    let w = (goal.at.returns t c).After-wide_place-skip in
    let l = area (16 * x.a + x.d) c.stretch_of-n.result x.t.now.key in
    let o = c.own_row-own.result in
    let nodes = c.grow-g.ensures.1 ∙ ap (laid (below t w) c.grow-f.result) c.grow-f.ensures.1 in
    laid_step l (ends t w) (get_or x.t.now.val x.a 0) (below t w) (later t w)
    (nodes_of x.x.now)
    x.at c.grow-f.result c.grow-g.result o c.link_over.result c.link_over-2.result _
    (made t w) c.grow-f.ensures.0 c.grow-g.ensures.0 c.own_row-own.ensures c.link_over.ensures c.link_over-2.ensures
    (c.put_node.ensures
    ∙ ap₂ (λ (z : Nodes) (b : List ℕ). with_cell z c.grow-g.result b (flag_of o) (value_or0 o) c.link_over.result c.link_over-2.result)
    nodes (part_is (16 * x.a + x.d) c.stretch_of-n.result x.t.now.key))
