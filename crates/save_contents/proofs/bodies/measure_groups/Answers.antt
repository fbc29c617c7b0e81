use mathlib.Core.Path.{◌≡◌, refl, sym, ap, ◌∙◌}
use Prim.Native.Nat.{ℕ, ◌<◌}
use native.Mathlib.Omega.{arith}
use lib.ListN.{length, length-set}
use Rattle.group_area.specs.Answer.{groups_in}
use Rattle.group_area.proofs.Laws.{sound_size}
use Rattle.save_contents.proofs.Regions.{is_used, is_free_lem, few_groups, size_turn, sizes_given, part_sound, part_body}
use Rattle.save_contents.proofs.bodies.measure_groups.Goals as goal
use Rattle.save_contents.proofs.bodies.measure_groups.Goals.{Else-area-at-eq0, In-loop-n}

room : (c : In-loop-n) → length c.args.area.now ≡ 57760
room c = sound_size c.args.area.now c.requires

-- the region is used
used : (c : Else-area-at-eq0) → c.loop-n.n < length (groups_in c.args.area.now)
used c = is_used c.args.area.now c.requires c.loop-n.n (omega arith) c.if-area-at-eq0.false

pub loop-n-init : goal.loop-n-init
loop-n-init c = (omega arith, refl, refl)

pub bounds-area-at : goal.bounds-area-at
bounds-area-at c = omega (arith, room (goal.at.bounds-area-at c).In-loop-n)

pub returns-then-area-at-eq0 : goal.returns-then-area-at-eq0
returns-then-area-at-eq0 c =
    let s = c.args.area.now in
    let l = c.loop-n in
    sizes_given (groups_in s) l.n l.size l.invariant.0 (is_free_lem s c.requires l.n c.if-area-at-eq0.true) l.invariant.2

pub slice_bounds-body_size-end : goal.slice_bounds-body_size-end
slice_bounds-body_size-end c = omega (arith, room (goal.at.slice_bounds-body_size-end c).In-loop-n)

pub body_size-requires : goal.body_size-requires
body_size-requires c = part_sound c.args.area.now c.requires c.loop-n.n (used (goal.at.body_size-requires c).Else-area-at-eq0)

pub loop-n-preserved : goal.loop-n-preserved
loop-n-preserved c =
    let s = c.args.area.now in
    let l = c.loop-n in
    let r = c.body_size in (
      omega (arith, used (goal.at.loop-n-preserved c).Else-area-at-eq0),
      length-set l.size l.n r.result ∙ l.invariant.1,
      sym (size_turn s c.requires l.n r.result l.size (used (goal.at.loop-n-preserved c).Else-area-at-eq0) (omega arith) (r.ensures.0 ∙ ap length (part_body s l.n))) ∙ l.invariant.2,
    )

pub returns : goal.returns
returns c =
    let s = c.args.area.now in
    let l = c.loop-n in
    ap (λ (k : ℕ). record { n = k; size = l.size }) (let e : 8 ≡ l.n = omega arith in e)
    ∙ sizes_given (groups_in s) l.n l.size l.invariant.0 (omega (arith, few_groups s c.requires)) l.invariant.2
