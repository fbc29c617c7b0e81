-- The function meets its contract, by the law of each answer. Assumes nothing.
use mathlib.Core.Path.{◌≡◌, sym, ◌∙◌}
use mathlib.Core.Bool.{true}
use Rattle.octets.specs.Bytes.{Bytes}
use Rattle.groups.specs.Answer.{SoundRegion}
use Rattle.bench_groups.specs.Answer.{sound_in}
use Rattle.bench_groups.proofs.Answers.{region_sound, acknowledge_bad, acknowledge_by}
use Rattle.bench_groups.proofs.wallathi_bench_acknowledge.Goals as goal
use Rattle.bench_groups.proofs.wallathi_bench_acknowledge.Goals.{Else-not-is_sound}

-- what was judged sound is
sound : (c : Else-not-is_sound) → sound_in c.args.region.now ≡ true
sound c = sym c.is_sound.ensures ∙ c.if-not-is_sound.false

region : (c : Else-not-is_sound) → SoundRegion c.args.region.now
region c =
    let bytes : Bytes c.args.region.now = record { byte = λ j. (c.slice_known-1.given j).fits } in
    region_sound _ bytes (sound c)

pub returns-then-not-is_sound : goal.returns-then-not-is_sound
returns-then-not-is_sound c = acknowledge_bad _ _ (sym c.is_sound.ensures ∙ c.if-not-is_sound.true)

pub acknowledge-requires : goal.acknowledge-requires
acknowledge-requires c = region (goal.at.acknowledge-requires c).Else-not-is_sound

pub returns : goal.returns
returns c =
    let r = acknowledge_by _ _ (sound (goal.at.returns c).Else-not-is_sound) in
    (c.acknowledge.ensures.0 ∙ r.0, c.acknowledge.ensures.1 ∙ r.1)
