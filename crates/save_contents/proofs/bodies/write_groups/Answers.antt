use mathlib.Core.Path.{◌≡◌, refl, sym, ap, ◌∙◌}
use mathlib.Core.List.{List, ◌++◌}
use Prim.Native.Nat.{ℕ, ◌+◌, ◌*◌, ◌<◌}
use native.Mathlib.Omega.{arith}
use lib.ListN.{length, length-append}
use Rattle.octets.specs.Place.{area, put}
use Rattle.octets.proofs.Laws.{put_none}
use Rattle.groups.specs.Bytes.{body_bytes}
use Rattle.groups.specs.Parse.{group_in}
use Rattle.group_area.specs.Answer.{groups_in}
use Rattle.group_area.proofs.Laws.{sound_size}
use Rattle.save_contents.proofs.Rows.{put_next}
use Rattle.save_contents.proofs.Regions.{few_groups, bodies_turn, bodies_end, part_sound, part_body}
use Rattle.save_contents.proofs.bodies.write_groups.Invariants.{left}
use Rattle.save_contents.proofs.bodies.write_groups.Goals as goal
use Rattle.save_contents.proofs.bodies.write_groups.Goals.{In-loop-k}

-- the next body
record Next (s : List ℕ) (k : ℕ) : Type 0 where
  within : k < length (groups_in s)
  few : k < 8
  size : length s ≡ 57760
  body : left s k ≡ body_bytes (group_in (area (k * 7220) 7220 s)) ++ left s (k + 1)
  sum : length (left s k) ≡ length (body_bytes (group_in (area (k * 7220) 7220 s))) + length (left s (k + 1))

next : (c : In-loop-k) → Next c.args.area.now c.loop-k.k
next c =
    let s = c.args.area.now in
    let k = c.loop-k.k in
    let h : k < length (groups_in s) = omega (arith, c.requires.1) in
    let e = bodies_turn s c.requires.0 k h in
    record {
      within = h;
      few = omega (arith, few_groups s c.requires.0);
      size = sound_size s c.requires.0;
      body = e;
      sum = ap length e ∙ length-append (body_bytes (group_in (area (k * 7220) 7220 s))) (left s (k + 1));
    }

pub loop-k-init : goal.loop-k-init
loop-k-init c = (omega arith, refl, refl, refl)

pub overflow_mul-from : goal.overflow_mul-from
overflow_mul-from c = omega (arith, (next (goal.at.overflow_mul-from c).In-loop-k).few)

pub overflow_add-from : goal.overflow_add-from
overflow_add-from c = omega (arith, (next (goal.at.overflow_add-from c).In-loop-k).few)

pub slice_bounds-write_body-end : goal.slice_bounds-write_body-end
slice_bounds-write_body-end c = omega (arith, (next (goal.at.slice_bounds-write_body-end c).In-loop-k).few, (next (goal.at.slice_bounds-write_body-end c).In-loop-k).size)

pub write_body-to-requires : goal.write_body-to-requires
write_body-to-requires c =
    let s = c.args.area.now in
    let l = c.loop-k in
    let w = next (goal.at.write_body-to-requires c).In-loop-k in
    (part_sound s c.requires.0 l.k w.within, omega (arith, ap length (part_body s l.k), w.sum, l.invariant.1, l.invariant.2, c.requires.2))

pub loop-k-preserved : goal.loop-k-preserved
loop-k-preserved c =
    let x = c.args in
    let s = x.area.now in
    let l = c.loop-k in
    let r = c.write_body-to in
    let w = next (goal.at.loop-k-preserved c).In-loop-k in
    let b : List ℕ = body_bytes (group_in (area (l.k * 7220) 7220 s)) in
    let e = part_body s l.k in (
      omega arith,
      r.auto.d ∙ l.invariant.1,
      omega (arith, r.ensures.0, ap length e, w.sum, l.invariant.2),
      put_next l.out r.new.d l.to r.result b (left s (l.k + 1)) (r.ensures.1 ∙ ap (put l.out l.to) e) (r.ensures.0 ∙ ap (λ (z : List ℕ). l.to + length z) e) (omega (arith, w.sum, l.invariant.1, l.invariant.2, c.requires.2))
          ∙ ap (put l.out l.to) (sym w.body)
          ∙ l.invariant.3,
    )

pub shape_of-out : goal.shape_of-out
shape_of-out c = c.loop-k.invariant.1

pub returns : goal.returns
returns c =
    let l = c.loop-k in
    sym (put_none l.out l.to) ∙ sym (ap (put l.out l.to) (bodies_end (groups_in c.args.area.now) l.k (omega (arith, c.requires.1)))) ∙ l.invariant.3
