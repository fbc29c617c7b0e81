-- The function meets its contract, by the law of each answer. Assumes nothing.
use mathlib.Core.Path.{◌≡◌, sym, ap, ◌∙◌}
use mathlib.Core.Bool.{true}
use Rattle.octets.specs.Bytes.{Bytes}
use Rattle.group_area.specs.Answer.{SoundArea}
use Rattle.std.proofs.Common.{Result}
use Rattle.std.specs.Result.{result_err}
use Rattle.refusal.specs.declared.Refusal.{Refusal}
use Rattle.bench_groups.specs.Answer.{area_sound, number_or_0}
use Rattle.bench_groups.proofs.Answers.{area_sound_lem, area_judged, destroy_bad, destroy_by}
use Rattle.bench_groups.proofs.wallathi_bench_destroy.Goals as goal
use Rattle.bench_groups.proofs.wallathi_bench_destroy.Goals.{Else-not-judge}

-- what was judged sound is
sound : (c : Else-not-judge) → area_sound c.args.area.now ≡ true
sound c = sym (area_judged _) ∙ sym c.judge.ensures ∙ c.if-not-judge.false

area : (c : Else-not-judge) → SoundArea c.args.area.now
area c =
    let bytes : Bytes c.args.area.now = record { byte = λ j. (c.slice_known-1.given j).fits } in
    area_sound_lem _ bytes (sound c)

pub returns-then-not-judge : goal.returns-then-not-judge
returns-then-not-judge c = destroy_bad _ _ (sym (area_judged _) ∙ sym c.judge.ensures ∙ c.if-not-judge.true)

pub destroy-requires : goal.destroy-requires
destroy-requires c = area (goal.at.destroy-requires c).Else-not-judge

pub returns-in-Ok : goal.returns-in-Ok
returns-in-Ok c =
    let r = destroy_by _ _ (sound (goal.at.returns-in-Ok c).Else-not-judge) (result_err c.destroy.result) c.destroy.ensures.0 in
    (sym (ap (λ (r : Result Unit Refusal). number_or_0 (result_err r)) c.in-Ok.is) ∙ r.0, c.destroy.ensures.1 ∙ r.1)

pub returns-in-Err : goal.returns-in-Err
returns-in-Err c =
    let r = destroy_by _ _ (sound (goal.at.returns-in-Err c).Else-not-judge) (result_err c.destroy.result) c.destroy.ensures.0 in
    (c.number.ensures ∙ sym (ap (λ (r : Result Unit Refusal). number_or_0 (result_err r)) c.in-Err.is) ∙ r.0, c.destroy.ensures.1 ∙ r.1)
