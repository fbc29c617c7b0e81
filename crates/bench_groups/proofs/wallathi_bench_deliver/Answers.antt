-- The function meets its contract, by the law of each answer. Assumes nothing.
use mathlib.Core.Path.{◌≡◌, sym, ap, ◌∙◌}
use mathlib.Core.Bool.{true}
use Rattle.octets.specs.Bytes.{Bytes}
use Rattle.id.specs.declared.Id.{Id}
use Rattle.id.specs.Id.{id_of, below}
use Rattle.groups.specs.Parse.{group_in}
use Rattle.groups.specs.Answer.{SoundRegion}
use Rattle.std.proofs.Common.{Result}
use Rattle.std.specs.Result.{result_err}
use Rattle.refusal.specs.declared.Refusal.{Refusal}
use Rattle.bench_groups.specs.Answer.{sound_in, is_short, number_or_0}
use Rattle.bench_groups.proofs.Answers.{region_sound, short_is, deliver_bad, deliver_name, deliver_old, deliver_by}
use Rattle.bench_groups.proofs.wallathi_bench_deliver.Goals as goal
use Rattle.bench_groups.proofs.wallathi_bench_deliver.Goals.{Else-not-is_below, Else-not-is_short, Else-not-is_sound}

-- what was judged sound is
sound : (c : Else-not-is_sound) → sound_in c.args.region.now ≡ true
sound c = sym c.is_sound.ensures ∙ c.if-not-is_sound.false

region : (c : Else-not-is_sound) → SoundRegion c.args.region.now
region c =
    let bytes : Bytes c.args.region.now = record { byte = λ j. (c.slice_known-1.given j).fits } in
    region_sound _ bytes (sound c)

short : (c : Else-not-is_short) → is_short c.args.consumer.now ≡ true
short c = sym c.is_short.ensures ∙ c.if-not-is_short.false

above : (c : Else-not-is_below) → let x = c.args in below (group_in x.region.now).delivered (id_of x.ms x.seq) ≡ true
above c =
    let x = c.args in
    ap (λ (i : Id). below i (id_of x.ms x.seq)) (sym c.delivered-last.ensures) ∙ sym c.is_below.ensures ∙ c.if-not-is_below.false

pub returns-then-not-is_sound : goal.returns-then-not-is_sound
returns-then-not-is_sound c = deliver_bad _ _ _ _ (sym c.is_sound.ensures ∙ c.if-not-is_sound.true)

pub returns-then-not-is_short : goal.returns-then-not-is_short
returns-then-not-is_short c = deliver_name _ _ _ _ (sound (goal.at.returns-then-not-is_short c).Else-not-is_sound) (sym c.is_short.ensures ∙ c.if-not-is_short.true)

pub delivered-last-requires : goal.delivered-last-requires
delivered-last-requires c = region (goal.at.delivered-last-requires c).Else-not-is_sound

pub returns-then-not-is_below : goal.returns-then-not-is_below
returns-then-not-is_below c =
    let x = c.args in
    deliver_old _ _ _ _ (sound (goal.at.returns-then-not-is_below c).Else-not-is_sound) (short (goal.at.returns-then-not-is_below c).Else-not-is_short) (ap (λ (i : Id). below i (id_of x.ms x.seq)) (sym c.delivered-last.ensures) ∙ sym c.is_below.ensures ∙ c.if-not-is_below.true)

pub deliver-requires : goal.deliver-requires
deliver-requires c = (region (goal.at.deliver-requires c).Else-not-is_sound, (short_is _ (short (goal.at.deliver-requires c).Else-not-is_short)).0, (short_is _ (short (goal.at.deliver-requires c).Else-not-is_short)).1, above (goal.at.deliver-requires c).Else-not-is_below)

pub returns-in-Ok : goal.returns-in-Ok
returns-in-Ok c =
    let r = deliver_by _ _ _ _ (sound (goal.at.returns-in-Ok c).Else-not-is_sound) (short (goal.at.returns-in-Ok c).Else-not-is_short) (above (goal.at.returns-in-Ok c).Else-not-is_below) (result_err c.deliver.result) c.deliver.ensures.0 in
    (sym (ap (λ (r : Result Unit Refusal). number_or_0 (result_err r)) c.in-Ok.is) ∙ r.0, c.deliver.ensures.1 ∙ r.1)

pub returns-in-Err : goal.returns-in-Err
returns-in-Err c =
    let r = deliver_by _ _ _ _ (sound (goal.at.returns-in-Err c).Else-not-is_sound) (short (goal.at.returns-in-Err c).Else-not-is_short) (above (goal.at.returns-in-Err c).Else-not-is_below) (result_err c.deliver.result) c.deliver.ensures.0 in
    (c.number.ensures ∙ sym (ap (λ (r : Result Unit Refusal). number_or_0 (result_err r)) c.in-Err.is) ∙ r.0, c.deliver.ensures.1 ∙ r.1)
