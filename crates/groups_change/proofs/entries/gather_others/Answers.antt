use mathlib.Core.Path.{◌≡◌, sym, ap, ◌∙◌, subst}
use Prim.Native.Nat.{ℕ, ◌+◌, ◌-◌}
use native.Mathlib.Omega.{arith}
use lib.ListN.{length}
use Rattle.octets.specs.Place.{put}
use Rattle.groups_change.proofs.Gathered.{Gathering, gathering_starts, gathered_length, gathering_turns, gathering_ends}
use Rattle.groups_change.proofs.entries.gather_others.Goals as goal
use Rattle.groups_change.proofs.entries.gather_others.Goals.{In-loop}

size : (c : In-loop) → length c.loop.region ≡ length c.args.region.now
size c =
    let l = c.loop in
    gathered_length c.args.region.now c.args.k c.args.n l.region l.at (c.args.n - l.counter) l.kept l.invariant c.requires

pub loop-init : goal.loop-init
loop-init c =
    let none : c.args.n - 0 ≡ c.args.n = omega arith in
    let x = c.args in
    rw none (gathering_starts x.region.now x.k x.n)

pub overflow_mul-kept : goal.overflow_mul-kept
overflow_mul-kept c = let l = c.loop in omega (arith, l.invariant.place, l.invariant.front, size (goal.at.overflow_mul-kept c).In-loop)

pub overflow_add-kept : goal.overflow_add-kept
overflow_add-kept c = let l = c.loop in omega (arith, l.invariant.place, l.invariant.front, size (goal.at.overflow_add-kept c).In-loop)

pub keep_row-kept-requires : goal.keep_row-kept-requires
keep_row-kept-requires c = let l = c.loop in (omega (arith, l.invariant.place, size (goal.at.keep_row-kept-requires c).In-loop), omega (arith, l.invariant.front))

pub overflow_add-kept-in-loop : goal.overflow_add-kept-in-loop
overflow_add-kept-in-loop c =
    let l = c.loop in
    omega (arith, l.invariant.place, l.invariant.front, c.keep_row-kept.ensures.1, size (goal.at.overflow_add-kept-in-loop c).In-loop)

pub overflow_add-at : goal.overflow_add-at
overflow_add-at c =
    let l = c.loop in
    omega (arith, l.invariant.place, size (goal.at.overflow_add-at c).In-loop)

pub loop-preserved : goal.loop-preserved
loop-preserved c =
    let l = c.loop in
    let e : c.args.n - (l.counter + 1) ≡ c.args.n - l.counter - 1 = omega arith in
    subst (λ (m : ℕ). Gathering c.args.region.now c.args.k c.args.n c.keep_row-kept.new.region (l.at + 27) m (l.kept + c.keep_row-kept.result)) (sym e)
    (gathering_turns c.args.region.now c.args.k c.args.n l.region l.at (c.args.n - l.counter) l.kept l.invariant c.requires (omega arith)
    c.keep_row-kept.result c.keep_row-kept.new.region c.keep_row-kept.ensures.0 c.keep_row-kept.ensures.1 c.keep_row-kept.ensures.2)

pub shape_of-region : goal.shape_of-region
shape_of-region c =
    let l = c.loop in
    gathered_length c.args.region.now c.args.k c.args.n l.region l.at (c.args.n - l.counter) l.kept l.invariant c.requires

pub returns : goal.returns
returns c =
    let l = c.loop in
    let q = gathering_ends c.args.region.now c.args.k c.args.n l.region l.at (c.args.n - l.counter) l.kept l.invariant c.requires (omega arith) in (
      sym l.invariant.size ∙ ap length q,
      omega (arith, l.invariant.place, l.invariant.front),
      l.invariant.laid ∙ ap (put c.args.region.now 308) q,
    )
