-- The function meets its contract, by the law of each answer. Assumes nothing.
use mathlib.Core.Path.{◌≡◌, sym, ap, ◌∙◌}
use mathlib.Core.Bool.{true}
use Prim.Native.Nat.{ℕ, ◌+◌}
use native.Mathlib.Omega.{arith}
use Rattle.octets.specs.Bytes.{Bytes}
use Rattle.groups.specs.Parse.{group_in}
use Rattle.groups.specs.Answer.{SoundRegion}
use Rattle.groups.proofs.Laws.{rules, count_others}
use Rattle.bench_groups.specs.Answer.{sound_in}
use Rattle.bench_groups.proofs.Answers.{region_sound, drop_bad, drop_by}
use Rattle.bench_groups.proofs.wallathi_bench_drop.Goals as goal
use Rattle.bench_groups.proofs.wallathi_bench_drop.Goals.{Else-not-is_sound}

-- what was judged sound is
sound : (c : Else-not-is_sound) → sound_in c.args.region.now ≡ true
sound c = sym c.is_sound.ensures ∙ c.if-not-is_sound.false

region : (c : Else-not-is_sound) → SoundRegion c.args.region.now
region c =
    let bytes : Bytes c.args.region.now = record { byte = λ j. (c.slice_known-1.given j).fits } in
    region_sound _ bytes (sound c)

pub returns-then-not-is_sound : goal.returns-then-not-is_sound
returns-then-not-is_sound c = drop_bad _ _ (sym c.is_sound.ensures ∙ c.if-not-is_sound.true)

pub drop_consumer-n-requires : goal.drop_consumer-n-requires
drop_consumer-n-requires c = region (goal.at.drop_consumer-n-requires c).Else-not-is_sound

pub overflow_add-result : goal.overflow_add-result
overflow_add-result c =
    let x = c.args in
    let g = group_in x.region.now in
    omega (arith, c.drop_consumer-n.ensures.0, count_others x.consumer.now g.pending, (rules g (region (goal.at.overflow_add-result c).Else-not-is_sound).rules_kept).room)

pub returns : goal.returns
returns c =
    let r = drop_by _ _ (sound (goal.at.returns c).Else-not-is_sound) in
    (ap (λ (n : ℕ). 1 + n) c.drop_consumer-n.ensures.0 ∙ r.0, c.drop_consumer-n.ensures.1 ∙ r.1)
