-- The function meets its contract, by the law of each answer. Assumes nothing.
use mathlib.Core.Path.{◌≡◌, sym, ap, ◌∙◌}
use mathlib.Core.Bool.{true}
use Rattle.octets.specs.Bytes.{Bytes}
use Rattle.group_area.specs.Answer.{SoundArea}
use Rattle.std.proofs.Common.{Result}
use Rattle.std.specs.Result.{result_err}
use Rattle.refusal.specs.declared.Refusal.{Refusal}
use Rattle.bench_groups.specs.Answer.{area_sound, is_short, number_or_0}
use Rattle.bench_groups.proofs.Answers.{area_sound_lem, area_judged, short_is, create_bad, create_name, create_by}
use Rattle.bench_groups.proofs.wallathi_bench_create.Goals as goal
use Rattle.bench_groups.proofs.wallathi_bench_create.Goals.{Else-not-is_short, Else-not-judge}

-- what was judged sound is
sound : (c : Else-not-judge) → area_sound c.args.area.now ≡ true
sound c = sym (area_judged _) ∙ sym c.judge.ensures ∙ c.if-not-judge.false

area : (c : Else-not-judge) → SoundArea c.args.area.now
area c =
    let bytes : Bytes c.args.area.now = record { byte = λ j. (c.slice_known-1.given j).fits } in
    area_sound_lem _ bytes (sound c)

short : (c : Else-not-is_short) → is_short c.args.name.now ≡ true
short c = sym c.is_short.ensures ∙ c.if-not-is_short.false

pub returns-then-not-judge : goal.returns-then-not-judge
returns-then-not-judge c = create_bad _ _ _ (sym (area_judged _) ∙ sym c.judge.ensures ∙ c.if-not-judge.true)

pub returns-then-not-is_short : goal.returns-then-not-is_short
returns-then-not-is_short c = create_name _ _ _ (sound (goal.at.returns-then-not-is_short c).Else-not-judge) (sym c.is_short.ensures ∙ c.if-not-is_short.true)

pub create-requires : goal.create-requires
create-requires c = (area (goal.at.create-requires c).Else-not-judge, (short_is _ (short (goal.at.create-requires c).Else-not-is_short)).0, (short_is _ (short (goal.at.create-requires c).Else-not-is_short)).1)

pub returns-in-Ok : goal.returns-in-Ok
returns-in-Ok c =
    let r = create_by _ _ _ (sound (goal.at.returns-in-Ok c).Else-not-judge) (short (goal.at.returns-in-Ok c).Else-not-is_short) (result_err c.create.result) c.create.ensures.0 in
    (sym (ap (λ (r : Result Unit Refusal). number_or_0 (result_err r)) c.in-Ok.is) ∙ r.0, c.create.ensures.1 ∙ r.1)

pub returns-in-Err : goal.returns-in-Err
returns-in-Err c =
    let r = create_by _ _ _ (sound (goal.at.returns-in-Err c).Else-not-judge) (short (goal.at.returns-in-Err c).Else-not-is_short) (result_err c.create.result) c.create.ensures.0 in
    (c.number.ensures ∙ sym (ap (λ (r : Result Unit Refusal). number_or_0 (result_err r)) c.in-Err.is) ∙ r.0, c.create.ensures.1 ∙ r.1)
