use mathlib.Core.Path.{refl, sym, ap, ◌∙◌}
use mathlib.Core.List.{List}
use Prim.Native.Nat.{ℕ, ◌<◌, ◌≤◌}
use native.Mathlib.Omega.{arith}
use lib.ListN.{drop}
use Rattle.radix.specs.Shape.{starts_with}
use Rattle.radix.proofs.Laws.{leads_to, tree_not, Turn, find_none, find_next, find_own, find_below, find_fits}
use Rattle.radix_bytes.specs.Bytes.{pool_in}
use Rattle.radix_bytes.proofs.Laws.{label_in, label_size}
use Rattle.radix_find.proofs.find_from.Goals as goal
use Rattle.radix_find.proofs.find_from.Goals.{After-starts, In-loop-p}

-- the loop is at a node, to which the link leads
up : (c : In-loop-p) → (0 < c.loop-p.left) × (0 < c.loop-p.at) × (c.loop-p.at ≤ 256)
up c = leads_to c.loop-p.left c.loop-p.at (sym c.leads.ensures ∙ c.loop-p-test.true)

turn : (c : After-starts) → let x = c.args in let l = c.loop-p in
    Turn (pool_in x.s.now) x.k.now l.left l.at l.i c.label_len-n.result c.starts.result
turn c =
    let x = c.args in
    let l = c.loop-p in
    let on = leads_to l.left l.at (sym c.leads.ensures ∙ c.loop-p-test.true) in
    record {
      size = label_size x.s.now c.requires;
      more = omega (arith, on);
      some = omega (arith, on);
      pool = omega (arith, on);
      bytes = c.label_len-n.ensures.0;
      test = c.starts.ensures ∙ ap (λ (y : List ℕ). starts_with y (drop l.i x.k.now)) (label_in x.s.now _ c.label_len-n.result (omega arith) c.label_len-n.ensures.1);
    }

pub loop-p-init : goal.loop-p-init
loop-p-init c = (omega arith, refl)

pub overflow_sub-p : goal.overflow_sub-p
overflow_sub-p c = omega (arith, up (goal.at.overflow_sub-p c).In-loop-p)

pub overflow_sub-left : goal.overflow_sub-left
overflow_sub-left c = omega (arith, up (goal.at.overflow_sub-left c).In-loop-p)

pub label_len-n-requires : goal.label_len-n-requires
label_len-n-requires c = (c.requires, omega (arith, up (goal.at.label_len-n-requires c).In-loop-p))

pub starts-requires : goal.starts-requires
starts-requires c = (omega (arith, c.requires, c.label_len-n.ensures.1, up (goal.at.starts-requires c).In-loop-p), c.loop-p.invariant.0)

pub overflow_add-i : goal.overflow_add-i
overflow_add-i c = let h = find_fits (turn (goal.at.overflow_add-i c).After-starts) c.if-starts.true (omega arith) in omega arith

pub own-requires : goal.own-requires
own-requires c = (c.requires, omega (arith, up (goal.at.own-requires c).In-loop-p))

pub returns-then-k-i : goal.returns-then-k-i
returns-then-k-i c = c.own.ensures ∙ find_own (turn (goal.at.returns-then-k-i c).After-starts) c.if-starts.true (omega arith) ∙ c.loop-p.invariant.1

pub child_at-at-requires : goal.child_at-at-requires
child_at-at-requires c = (c.requires, omega (arith, up (goal.at.child_at-at-requires c).In-loop-p))

pub loop-p-preserved-then-starts : goal.loop-p-preserved-then-starts
loop-p-preserved-then-starts c = (omega arith, find_below (turn (goal.at.loop-p-preserved-then-starts c).After-starts) c.child_at-at.result c.if-starts.true (omega arith) c.child_at-at.ensures.0 ∙ c.loop-p.invariant.1)

pub next_at-at-requires : goal.next_at-at-requires
next_at-at-requires c = (c.requires, omega (arith, up (goal.at.next_at-at-requires c).In-loop-p))

pub loop-p-preserved : goal.loop-p-preserved
loop-p-preserved c = (omega arith, find_next (turn (goal.at.loop-p-preserved c).After-starts) c.next_at-at.result c.if-starts.false c.next_at-at.ensures.0 ∙ c.loop-p.invariant.1)

pub returns : goal.returns
returns c = let l = c.loop-p in sym (find_none (drop l.i c.args.k.now) (tree_not _ l.left l.at (sym c.leads.ensures ∙ c.loop-p-test.false))) ∙ l.invariant.1
