use mathlib.Core.Path.{◌≡◌, sym, ap, ◌∙◌}
use Prim.Native.Nat.{ℕ, ◌+◌, ◌-◌}
use native.Mathlib.Omega.{arith}
use lib.ListN.{length, drop}
use Rattle.octets.specs.Compare.{order_of}
use Rattle.groups.specs.declared.Spot.TheVariants.{New}
use Rattle.groups.specs.Parse.{name_in, names_in}
use Rattle.groups.specs.Answer.{spot_from}
use Rattle.groups.proofs.Turns.{name_at}
use Rattle.groups.proofs.Verdicts.{sound_tested}
use Rattle.groups.proofs.Searched.{names_from, spot_new, spot_known, spot_next, spot_done}
use Rattle.octets.proofs.Laws.{part_is}
use Rattle.groups.proofs.reading.spot_of.Goals as goal
use Rattle.groups.proofs.reading.spot_of.Goals.{After-compare, In-loop-k}

size : (c : In-loop-k) → length c.args.region.now ≡ 7220
size c = (sound_tested c.args.region.now c.requires).size

-- the name, compared with the one of the field
compared : (c : After-compare) → let x = c.args in
    c.compare.result ≡ order_of x.name.now (name_in (drop c.loop-k.at x.region.now))
compared c =
    let x = c.args in
    let l = c.loop-k in
    let w = c.wide-n in
    c.compare.ensures
    ∙ ap (order_of x.name.now) (part_is (l.at + 1) w.result x.region.now ∙ sym (name_at l.at w.result x.region.now w.ensures.0))

pub consumer_count-count-requires : goal.consumer_count-count-requires
consumer_count-count-requires c = c.requires

pub loop-k-init : goal.loop-k-init
loop-k-init c =
    let x = c.args in
    let none : c.consumer_count-count.result - 0 ≡ c.consumer_count-count.result = omega arith in
    rw none (omega arith, omega arith, ap (spot_from 0 x.name.now) (names_from x.region.now c.consumer_count-count.result c.consumer_count-count.ensures.0))

pub bounds-region-at : goal.bounds-region-at
bounds-region-at c = omega (arith, size (goal.at.bounds-region-at c).In-loop-k)

pub wide-n-requires : goal.wide-n-requires
wide-n-requires c = search

pub overflow_add-at-in-loop-k-2 : goal.overflow_add-at-in-loop-k-2
overflow_add-at-in-loop-k-2 c = omega (arith, c.wide-n.ensures.1)

pub slice_bounds-compare-start : goal.slice_bounds-compare-start
slice_bounds-compare-start c = omega (arith, size (goal.at.slice_bounds-compare-start c).In-loop-k)

pub slice_bounds-compare-end : goal.slice_bounds-compare-end
slice_bounds-compare-end c = omega (arith, c.wide-n.ensures.1, size (goal.at.slice_bounds-compare-end c).In-loop-k)

pub compare-requires : goal.compare-requires
compare-requires c = search

pub enum_told-1 : goal.enum_told-1
enum_told-1 c = search

pub returns-in-Less : goal.returns-in-Less
returns-in-Less c =
    let x = c.args in
    let l = c.loop-k in
    sym (spot_new l.k x.name.now (c.consumer_count-count.result - l.k) l.at x.region.now (omega arith) (sym (compared (goal.at.returns-in-Less c).After-compare) ∙ c.in-Less.is)) ∙ l.invariant.2

pub enum_told-in-Equal : goal.enum_told-in-Equal
enum_told-in-Equal c = search

pub returns-in-Equal : goal.returns-in-Equal
returns-in-Equal c =
    let x = c.args in
    let l = c.loop-k in
    sym (spot_known l.k x.name.now (c.consumer_count-count.result - l.k) l.at x.region.now (omega arith) (sym (compared (goal.at.returns-in-Equal c).After-compare) ∙ c.in-Equal.is)) ∙ l.invariant.2

pub enum_told-in-Greater : goal.enum_told-in-Greater
enum_told-in-Greater c = search

pub loop-k-preserved : goal.loop-k-preserved
loop-k-preserved c =
    let x = c.args in
    let l = c.loop-k in
    let n = c.consumer_count-count.result in
    let e : n - (l.k + 1) ≡ n - l.k - 1 = omega arith in (
      omega arith,
      omega arith,
      ap (λ (m : ℕ). spot_from (l.k + 1) x.name.now (names_in m (drop (l.at + 17) x.region.now))) e
          ∙ sym (spot_next l.k x.name.now (c.consumer_count-count.result - l.k) l.at x.region.now (omega arith) (sym (compared (goal.at.loop-k-preserved c).After-compare) ∙ c.in-Greater.is)) ∙ l.invariant.2,
    )

pub returns : goal.returns
returns c =
    let x = c.args in
    let l = c.loop-k in
    let e : c.consumer_count-count.result ≡ l.k = omega arith in
    ap New e ∙ sym (spot_done l.k x.name.now (c.consumer_count-count.result - l.k) l.at x.region.now (omega arith)) ∙ l.invariant.2
