use mathlib.Core.Bool.{true}
use mathlib.Core.List.{List, ◌++◌}
use mathlib.Core.Path.{◌≡◌, refl, sym, ap, ◌∙◌}
use Prim.Native.Nat.{ℕ, ◌-◌, ◌≤◌, ◌<◌}
use native.Mathlib.Omega.{arith}
use Rattle.std.proofs.Common.{option_map}
use lib.ListN.{length, take}
use Rattle.radix.specs.Record.{leads_on, tree_at}
use Rattle.radix_bytes.specs.Bytes.{pool_in}
use Rattle.radix_bytes.proofs.Laws.{label_in}
use Rattle.radix.specs.Walk.{greatest_in}
use Rattle.keys.specs.Answer.{near_of}
use Rattle.radix_walk.specs.Neighbours.{cut_key, alone, greatest_from}
use Rattle.radix.proofs.Laws.{leads_to}
use Rattle.radix_walk.proofs.Paths.{Down, greatest_own, greatest_below, greatest_start, greatest_end}
use Rattle.radix_walk.proofs.near.greatest.Goals as goal
use Rattle.radix_walk.proofs.near.greatest.Goals.{After-laid-n-in-loop-path, At-loop-path, In-loop-path}

on : (c : In-loop-path) → leads_on c.loop-path.left c.loop-path.at ≡ true
on c = sym c.leads.ensures ∙ c.loop-path-test.true

up : (c : In-loop-path) → (0 < c.loop-path.left) × (0 < c.loop-path.at) × (c.loop-path.at ≤ 256)
up c = leads_to c.loop-path.left c.loop-path.at (on c)

down : (c : After-laid-n-in-loop-path) → Down (pool_in c.args.s.now) c.loop-path.left c.loop-path.at c.label_len.result (take c.loop-path.n c.loop-path.path) (take c.laid-n-in-loop-path.result c.laid-n-in-loop-path.new.path)
down c =
    let the_on : leads_on c.loop-path.left c.loop-path.at ≡ true = sym c.leads.ensures ∙ c.loop-path-test.true in let the_up : (0 < c.loop-path.left) × (0 < c.loop-path.at) × (c.loop-path.at ≤ 256) = let the_on : leads_on c.loop-path.left c.loop-path.at ≡ true = sym c.leads.ensures ∙ c.loop-path-test.true in leads_to c.loop-path.left c.loop-path.at (the_on) in let l = c.loop-path in
    record {
      on = the_on;
      bytes = c.label_len.ensures.0;
      laid = c.laid-n-in-loop-path.ensures.1 ∙ ap (λ (y : List ℕ). take 16 (take l.n l.path ++ y)) (label_in c.args.s.now (l.at - 1) c.label_len.result (omega (arith, the_up)) c.label_len.ensures.1);
    }

whole : (c : At-loop-path) → cut_key (greatest_in (take c.loop-path.n c.loop-path.path) (alone (tree_at c.loop-path.left (pool_in c.args.s.now) c.loop-path.at))) ≡ cut_key (greatest_from (pool_in c.args.s.now) c.args.k.now c.args.from)
whole c = c.loop-path.invariant.2 ∙ greatest_start (pool_in c.args.s.now) c.args.k.now c.args.from (take c.laid-n.result c.laid-n.new.path) c.laid-n.ensures.1

long : (c : After-laid-n-in-loop-path) → length c.laid-n-in-loop-path.new.path ≡ 16
long c = c.laid-n-in-loop-path.auto.path ∙ c.loop-path.invariant.0

pub loop-path-init : goal.loop-path-init
loop-path-init c = (c.laid-n.auto.path, c.laid-n.ensures.0, refl)

pub overflow_sub-p : goal.overflow_sub-p
overflow_sub-p c = omega (arith, leads_to c.loop-path.left c.loop-path.at (sym c.leads.ensures ∙ c.loop-path-test.true))

pub slice_bounds-laid-end-in-loop-path : goal.slice_bounds-laid-end-in-loop-path
slice_bounds-laid-end-in-loop-path c = sym c.loop-path.invariant.0

pub overflow_mul-p : goal.overflow_mul-p
overflow_mul-p c = omega (arith, up (goal.at.overflow_mul-p c).In-loop-path)

pub overflow_add-p : goal.overflow_add-p
overflow_add-p c = omega (arith, up (goal.at.overflow_add-p c).In-loop-path)

pub label_len-requires : goal.label_len-requires
label_len-requires c = (c.requires.0, omega (arith, up (goal.at.label_len-requires c).In-loop-path))

pub laid-n-requires-in-loop-path : goal.laid-n-requires-in-loop-path
laid-n-requires-in-loop-path c = omega (arith, up (goal.at.laid-n-requires-in-loop-path c).In-loop-path, c.requires)

pub child_at-below-requires : goal.child_at-below-requires
child_at-below-requires c = (c.requires.0, omega (arith, up (goal.at.child_at-below-requires c).In-loop-path))

pub overflow_sub-left : goal.overflow_sub-left
overflow_sub-left c = omega (arith, up (goal.at.overflow_sub-left c).In-loop-path)

pub slice_bounds-own_entry-end : goal.slice_bounds-own_entry-end
slice_bounds-own_entry-end c = sym (long (goal.at.slice_bounds-own_entry-end c).After-laid-n-in-loop-path)

pub own_entry-requires : goal.own_entry-requires
own_entry-requires c = (c.requires.0, (omega (arith, up (goal.at.own_entry-requires c).In-loop-path), long (goal.at.own_entry-requires c).After-laid-n-in-loop-path, c.laid-n-in-loop-path.ensures.0))

pub returns-then-not-leads : goal.returns-then-not-leads
returns-then-not-leads c =
    c.own_entry.ensures
    ∙ ap (option_map near_of) (greatest_own (down (goal.at.returns-then-not-leads c).After-laid-n-in-loop-path) c.child_at-below.result c.child_at-below.ensures.0 (sym c.leads-in-loop-path.ensures ∙ c.if-not-leads.true) ∙ whole (goal.at.returns-then-not-leads c).At-loop-path)

pub overflow_sub-left-in-loop-path : goal.overflow_sub-left-in-loop-path
overflow_sub-left-in-loop-path c = omega (arith, up (goal.at.overflow_sub-left-in-loop-path c).In-loop-path)

pub loop-path-smaller : goal.loop-path-smaller
loop-path-smaller c = omega (arith, up (goal.at.loop-path-smaller c).In-loop-path, c.last_of-last.ensures.within)

pub loop-path-preserved : goal.loop-path-preserved
loop-path-preserved c = (
  long (goal.at.loop-path-preserved c).After-laid-n-in-loop-path,
  c.laid-n-in-loop-path.ensures.0,
  ap cut_key (sym (c.last_of-last.ensures.last (take c.laid-n-in-loop-path.result c.laid-n-in-loop-path.new.path)))
      ∙ greatest_below (down (goal.at.loop-path-preserved c).After-laid-n-in-loop-path) c.child_at-below.result c.child_at-below.ensures.0 (sym c.leads-in-loop-path.ensures ∙ c.if-not-leads.false)
      ∙ c.loop-path.invariant.2,
)

pub returns : goal.returns
returns c =
    let l = c.loop-path in
    ap (option_map near_of) (greatest_end (pool_in c.args.s.now) (take l.n l.path) l.left l.at (sym c.leads.ensures ∙ c.loop-path-test.false) ∙ whole (goal.at.returns c).At-loop-path)
