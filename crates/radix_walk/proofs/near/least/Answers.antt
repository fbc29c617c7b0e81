use mathlib.Core.Bool.{true}
use mathlib.Core.Path.{◌≡◌, refl, sym, ap, ◌∙◌}
use mathlib.Core.List.{List, ◌++◌}
use Prim.Native.Nat.{ℕ, ◌-◌, ◌≤◌, ◌<◌}
use native.Mathlib.Omega.{arith}
use Rattle.std.proofs.Common.{option_map, Some}
use lib.ListN.{length, take}
use Rattle.radix.specs.Record.{leads_on, tree_at}
use Rattle.radix_bytes.specs.Bytes.{pool_in}
use Rattle.radix_bytes.proofs.Laws.{label_in}
use Rattle.radix.specs.Walk.{least_in}
use Rattle.keys.specs.Answer.{near_of}
use Rattle.radix_walk.specs.Neighbours.{cut_key, least_from}
use Rattle.radix.proofs.Laws.{leads_to}
use Rattle.radix_walk.proofs.Paths.{Down, least_own, least_below, least_start, least_end}
use Rattle.radix_walk.proofs.near.least.Goals as goal
use Rattle.radix_walk.proofs.near.least.Goals.{After-laid-n-in-loop-path, At-loop-path, In-loop-path}

on : (c : In-loop-path) → leads_on c.loop-path.left c.loop-path.at ≡ true
on c = sym c.leads.ensures ∙ c.loop-path-test.true

up : (c : In-loop-path) → (0 < c.loop-path.left) × (0 < c.loop-path.at) × (c.loop-path.at ≤ 256)
up c = leads_to c.loop-path.left c.loop-path.at (on c)

down : (c : After-laid-n-in-loop-path) → Down (pool_in c.args.s.now) c.loop-path.left c.loop-path.at c.label_len.result (take c.loop-path.n c.loop-path.path) (take c.laid-n-in-loop-path.result c.laid-n-in-loop-path.new.path)
down c =
    let the_on : leads_on c.loop-path.left c.loop-path.at ≡ true = sym c.leads.ensures ∙ c.loop-path-test.true in let the_up : (0 < c.loop-path.left) × (0 < c.loop-path.at) × (c.loop-path.at ≤ 256) = let the_on : leads_on c.loop-path.left c.loop-path.at ≡ true = sym c.leads.ensures ∙ c.loop-path-test.true in leads_to c.loop-path.left c.loop-path.at (the_on) in let l = c.loop-path in
    record {
      on = the_on;
      bytes = c.label_len.ensures.0;
      laid = c.laid-n-in-loop-path.ensures.1 ∙ ap (λ (y : List ℕ). take 16 (take l.n l.path ++ y)) (label_in c.args.s.now (l.at - 1) c.label_len.result (omega (arith, the_up)) c.label_len.ensures.1);
    }

whole : (c : At-loop-path) → cut_key (least_in (take c.loop-path.n c.loop-path.path) (tree_at c.loop-path.left (pool_in c.args.s.now) c.loop-path.at)) ≡ cut_key (least_from (pool_in c.args.s.now) c.args.k.now c.args.from)
whole c = c.loop-path.invariant.2 ∙ least_start (pool_in c.args.s.now) c.args.k.now c.args.from (take c.laid-n.result c.laid-n.new.path) c.laid-n.ensures.1

long : (c : After-laid-n-in-loop-path) → length c.laid-n-in-loop-path.new.path ≡ 16
long c = c.laid-n-in-loop-path.auto.path ∙ c.loop-path.invariant.0

pub loop-path-init : goal.loop-path-init
loop-path-init c = (c.laid-n.auto.path, c.laid-n.ensures.0, refl)

pub overflow_sub-p : goal.overflow_sub-p
overflow_sub-p c = omega (arith, leads_to c.loop-path.left c.loop-path.at (sym c.leads.ensures ∙ c.loop-path-test.true))

pub slice_bounds-laid-end-in-loop-path : goal.slice_bounds-laid-end-in-loop-path
slice_bounds-laid-end-in-loop-path c = sym c.loop-path.invariant.0

pub overflow_mul-p : goal.overflow_mul-p
overflow_mul-p c = omega (arith, up (goal.at.overflow_mul-p c).In-loop-path)

pub overflow_add-p : goal.overflow_add-p
overflow_add-p c = omega (arith, up (goal.at.overflow_add-p c).In-loop-path)

pub label_len-requires : goal.label_len-requires
label_len-requires c = (c.requires.0, omega (arith, up (goal.at.label_len-requires c).In-loop-path))

pub laid-n-requires-in-loop-path : goal.laid-n-requires-in-loop-path
laid-n-requires-in-loop-path c = omega (arith, up (goal.at.laid-n-requires-in-loop-path c).In-loop-path, c.requires)

pub key_at-requires : goal.key_at-requires
key_at-requires c = (c.requires.0, omega (arith, up (goal.at.key_at-requires c).In-loop-path))

pub slice_bounds-entry_of-end : goal.slice_bounds-entry_of-end
slice_bounds-entry_of-end c = sym (long (goal.at.slice_bounds-entry_of-end c).After-laid-n-in-loop-path)

pub value_at-requires : goal.value_at-requires
value_at-requires c = (c.requires.0, omega (arith, up (goal.at.value_at-requires c).In-loop-path))

pub entry_of-requires : goal.entry_of-requires
entry_of-requires c = (long (goal.at.entry_of-requires c).After-laid-n-in-loop-path, c.laid-n-in-loop-path.ensures.0)

pub returns-then-key_at-ne0 : goal.returns-then-key_at-ne0
returns-then-key_at-ne0 c =
    ap Some c.entry_of.ensures
    ∙ ap (option_map near_of) (least_own (down (goal.at.returns-then-key_at-ne0 c).After-laid-n-in-loop-path) c.value_at.result (λ z. c.if-key_at-ne0.true (c.key_at.ensures.0 ∙ z)) c.value_at.ensures.0 ∙ whole (goal.at.returns-then-key_at-ne0 c).At-loop-path)

pub child_at-at-requires : goal.child_at-at-requires
child_at-at-requires c = (c.requires.0, omega (arith, up (goal.at.child_at-at-requires c).In-loop-path))

pub overflow_sub-left : goal.overflow_sub-left
overflow_sub-left c = omega (arith, up (goal.at.overflow_sub-left c).In-loop-path)

pub loop-path-smaller : goal.loop-path-smaller
loop-path-smaller c = omega (arith, up (goal.at.loop-path-smaller c).In-loop-path)

pub loop-path-preserved : goal.loop-path-preserved
loop-path-preserved c = (long (goal.at.loop-path-preserved c).After-laid-n-in-loop-path, c.laid-n-in-loop-path.ensures.0, least_below (down (goal.at.loop-path-preserved c).After-laid-n-in-loop-path) c.child_at-at.result (sym c.key_at.ensures.0 ∙ c.if-key_at-ne0.false) c.child_at-at.ensures.0 ∙ c.loop-path.invariant.2)

pub returns : goal.returns
returns c =
    let l = c.loop-path in
    ap (option_map near_of) (least_end (pool_in c.args.s.now) (take l.n l.path) l.left l.at (sym c.leads.ensures ∙ c.loop-path-test.false) ∙ whole (goal.at.returns c).At-loop-path)
