use mathlib.Core.Path.{◌≡◌, refl, sym, ap, ◌∙◌}
use mathlib.Core.List.{[]}
use Prim.Native.Nat.{◌+◌, ◌≤◌}
use native.Mathlib.Omega.{arith}
use lib.ListN.{length, get_or}
use Rattle.octets.specs.Compare.{order_of}
use Rattle.groups.specs.declared.Spot.TheVariants.{New}
use Rattle.groups.specs.Area.{names_of}
use Rattle.group_area.specs.Answer.{groups_in}
use Rattle.group_area.proofs.Found.{UsedRegion, used_region, free_region, spot_end, spot_less, spot_equal, spot_greater, sound_size, few_names}
use Rattle.octets.proofs.Laws.{part_is}
use Rattle.groups.proofs.Laws.{name_at}
use Rattle.group_area.proofs.finding.spot_of.Goals as goal
use Rattle.group_area.proofs.finding.spot_of.Goals.{After-compare, Else-n-eq0, In-loop-k}

size : (c : In-loop-k) → length c.args.s.now ≡ 57760
size c = sound_size c.args.s.now c.requires

-- the region is used
used : (c : Else-n-eq0) → let l = c.loop-k in
    let s = c.args.s.now in
    UsedRegion s l.at l.k (names_of (groups_in s))
used c =
    let l = c.loop-k in
    used_region c.args.s.now c.requires l.k l.at l.invariant.0 (omega (arith, c.wide-n.ensures.0, c.if-n-eq0.false))

-- the name, compared with the one of the region
compared : (c : After-compare) → let x = c.args in
    c.compare.result ≡ order_of x.name.now (get_or (names_of (groups_in x.s.now)) c.loop-k.k [])
compared c =
    let the_used : let l = c.loop-k in
    let s = c.args.s.now in
    UsedRegion s l.at l.k (names_of (groups_in s)) = let l = c.loop-k in
    used_region c.args.s.now c.requires l.k l.at l.invariant.0 (omega (arith, c.wide-n.ensures.0, c.if-n-eq0.false)) in let x = c.args in
    let l = c.loop-k in
    let w = c.wide-n in
    c.compare.ensures
    ∙ ap (order_of x.name.now) (part_is (l.at + 1) w.result x.s.now ∙ sym (name_at l.at w.result x.s.now w.ensures.0) ∙ (the_used).name)

pub loop-k-init : goal.loop-k-init
loop-k-init c = (omega arith, omega arith, refl)

pub bounds-s-at : goal.bounds-s-at
bounds-s-at c = omega (arith, size (goal.at.bounds-s-at c).In-loop-k)

pub wide-n-requires : goal.wide-n-requires
wide-n-requires c = search

pub returns-then-n-eq0 : goal.returns-then-n-eq0
returns-then-n-eq0 c =
    let x = c.args in
    let l = c.loop-k in
    let e = free_region x.s.now c.requires l.k l.at l.invariant.0 (omega (arith, c.wide-n.ensures.0, c.if-n-eq0.true)) in
    sym (spot_end x.name.now (names_of (groups_in x.s.now)) l.k e) ∙ l.invariant.2

pub overflow_add-at-in-loop-k-2 : goal.overflow_add-at-in-loop-k-2
overflow_add-at-in-loop-k-2 c = omega (arith, c.wide-n.ensures.1)

pub slice_bounds-compare-end : goal.slice_bounds-compare-end
slice_bounds-compare-end c = omega (arith, size (goal.at.slice_bounds-compare-end c).In-loop-k, c.wide-n.ensures.1)

pub compare-requires : goal.compare-requires
compare-requires c = search

pub enum_told-1 : goal.enum_told-1
enum_told-1 c = search

pub returns-in-Less : goal.returns-in-Less
returns-in-Less c =
    let x = c.args in
    let l = c.loop-k in
    let u = used (goal.at.returns-in-Less c).Else-n-eq0 in
    sym (spot_less x.name.now (names_of (groups_in x.s.now)) l.k u.within (sym (compared (goal.at.returns-in-Less c).After-compare) ∙ c.in-Less.is)) ∙ l.invariant.2

pub enum_told-in-Equal : goal.enum_told-in-Equal
enum_told-in-Equal c = search

pub returns-in-Equal : goal.returns-in-Equal
returns-in-Equal c =
    let x = c.args in
    let l = c.loop-k in
    let u = used (goal.at.returns-in-Equal c).Else-n-eq0 in
    sym (spot_equal x.name.now (names_of (groups_in x.s.now)) l.k u.within (sym (compared (goal.at.returns-in-Equal c).After-compare) ∙ c.in-Equal.is)) ∙ l.invariant.2

pub enum_told-in-Greater : goal.enum_told-in-Greater
enum_told-in-Greater c = search

pub loop-k-preserved : goal.loop-k-preserved
loop-k-preserved c =
    let x = c.args in
    let l = c.loop-k in
    let u = used (goal.at.loop-k-preserved c).Else-n-eq0 in (
      omega arith,
      omega arith,
      sym (spot_greater x.name.now (names_of (groups_in x.s.now)) l.k u.within (sym (compared (goal.at.loop-k-preserved c).After-compare) ∙ c.in-Greater.is)) ∙ l.invariant.2,
    )

pub returns : goal.returns
returns c =
    let x = c.args in
    let l = c.loop-k in
    let e : 8 ≡ l.k = omega arith in
    let h : length (names_of (groups_in x.s.now)) ≤ l.k = omega (arith, few_names x.s.now c.requires) in
    ap New e
    ∙ sym (spot_end x.name.now (names_of (groups_in x.s.now)) l.k h) ∙ l.invariant.2
