-- The function meets its contract, by the law of each answer. Assumes nothing.
use mathlib.Core.Path.{◌≡◌, sym, ap, ◌∙◌}
use mathlib.Core.Bool.{true}
use Rattle.octets.specs.Bytes.{Bytes}
use Rattle.groups.specs.Answer.{SoundRegion}
use Rattle.std.proofs.Common.{Bool, Result, None}
use Rattle.std.specs.Result.{result_err}
use Rattle.refusal.specs.declared.Refusal.{Refusal}
use Rattle.groups_change.specs.Moved.{is_moved}
use Rattle.bench_groups.specs.Answer.{sound_in, is_short, claim_number}
use Rattle.bench_groups.proofs.Answers.{region_sound, short_is, claim_bad, claim_name, claim_by}
use Rattle.bench_groups.proofs.wallathi_bench_claim.Goals as goal
use Rattle.bench_groups.proofs.wallathi_bench_claim.Goals.{Else-not-is_short, Else-not-is_sound}

-- what was judged sound is
sound : (c : Else-not-is_sound) → sound_in c.args.region.now ≡ true
sound c = sym c.is_sound.ensures ∙ c.if-not-is_sound.false

region : (c : Else-not-is_sound) → SoundRegion c.args.region.now
region c =
    let bytes : Bytes c.args.region.now = record { byte = λ j. (c.slice_known-1.given j).fits } in
    region_sound _ bytes (sound c)

short : (c : Else-not-is_short) → is_short c.args.consumer.now ≡ true
short c = sym c.is_short.ensures ∙ c.if-not-is_short.false

pub returns-then-not-is_sound : goal.returns-then-not-is_sound
returns-then-not-is_sound c = claim_bad _ _ _ _ _ (sym c.is_sound.ensures ∙ c.if-not-is_sound.true)

pub returns-then-not-is_short : goal.returns-then-not-is_short
returns-then-not-is_short c = claim_name _ _ _ _ _ (sound (goal.at.returns-then-not-is_short c).Else-not-is_sound) (sym c.is_short.ensures ∙ c.if-not-is_short.true)

pub claim-requires : goal.claim-requires
claim-requires c = (region (goal.at.claim-requires c).Else-not-is_sound, (short_is _ (short (goal.at.claim-requires c).Else-not-is_short)).0, (short_is _ (short (goal.at.claim-requires c).Else-not-is_short)).1)

pub returns-in-Ok-true : goal.returns-in-Ok-true
returns-in-Ok-true c =
    let r = claim_by _ _ _ _ _ (sound (goal.at.returns-in-Ok-true c).Else-not-is_sound) (short (goal.at.returns-in-Ok-true c).Else-not-is_short) (result_err c.claim.result) (is_moved c.claim.result) c.claim.ensures.0 c.claim.ensures.1 in
    (sym (ap (λ (r : Result Bool Refusal). claim_number (result_err r) (is_moved r)) c.in-Ok-true.is ∙ ap (claim_number None) c.in-Ok-true.field-0-test) ∙ r.0, c.claim.ensures.2 ∙ r.1)

pub returns-in-Ok-false : goal.returns-in-Ok-false
returns-in-Ok-false c =
    let r = claim_by _ _ _ _ _ (sound (goal.at.returns-in-Ok-false c).Else-not-is_sound) (short (goal.at.returns-in-Ok-false c).Else-not-is_short) (result_err c.claim.result) (is_moved c.claim.result) c.claim.ensures.0 c.claim.ensures.1 in
    (sym (ap (λ (r : Result Bool Refusal). claim_number (result_err r) (is_moved r)) c.in-Ok-false.is ∙ ap (claim_number None) c.in-Ok-false.field-0-test) ∙ r.0, c.claim.ensures.2 ∙ r.1)

pub returns-in-Err : goal.returns-in-Err
returns-in-Err c =
    let r = claim_by _ _ _ _ _ (sound (goal.at.returns-in-Err c).Else-not-is_sound) (short (goal.at.returns-in-Err c).Else-not-is_short) (result_err c.claim.result) (is_moved c.claim.result) c.claim.ensures.0 c.claim.ensures.1 in
    (c.number.ensures ∙ sym (ap (λ (r : Result Bool Refusal). claim_number (result_err r) (is_moved r)) c.in-Err.is) ∙ r.0, c.claim.ensures.2 ∙ r.1)
