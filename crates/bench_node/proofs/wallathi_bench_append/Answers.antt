-- Assumes nothing.
use mathlib.Core.Path.{◌≡◌, sym, ◌∙◌}
use mathlib.Core.Bool.{true}
use Rattle.id.specs.Id.{id_of}
use Rattle.slip.specs.Answer.{is_slip}
use Rattle.bench_node.specs.Node.{is_sound}
use Rattle.bench_node.proofs.Slots.{sound_slot, appends_bad, appends_other, appends_full, appends_is}
use Rattle.bench_node.proofs.wallathi_bench_append.Goals as goal
use Rattle.bench_node.proofs.wallathi_bench_append.Goals.{Else-not-check_slip, Else-not-is_sound}

sound : (c : Else-not-is_sound) → let a = c.args in is_sound (id_of a.key_ms a.key_seq) a.slot.now ≡ true
sound c = sym c.is_sound.ensures ∙ c.if-not-is_sound.false

is_slip_lem : (c : Else-not-check_slip) → is_slip c.args.slip.now ≡ true
is_slip_lem c = sym c.check_slip.ensures ∙ c.if-not-check_slip.false

pub returns-then-not-is_sound : goal.returns-then-not-is_sound
returns-then-not-is_sound c = appends_bad _ _ _ _ (sym c.is_sound.ensures ∙ c.if-not-is_sound.true)

pub returns-then-not-check_slip : goal.returns-then-not-check_slip
returns-then-not-check_slip c = appends_other _ _ _ _ (sound (goal.at.returns-then-not-check_slip c).Else-not-is_sound) (sym c.check_slip.ensures ∙ c.if-not-check_slip.true)

pub takes-requires : goal.takes-requires
takes-requires c = (sound_slot _ _ (sound (goal.at.takes-requires c).Else-not-is_sound), is_slip_lem (goal.at.takes-requires c).Else-not-check_slip)

pub returns-then-not-takes : goal.returns-then-not-takes
returns-then-not-takes c = appends_full _ _ _ _ (sound (goal.at.returns-then-not-takes c).Else-not-is_sound) (is_slip_lem (goal.at.returns-then-not-takes c).Else-not-check_slip) (sym c.takes.ensures ∙ c.if-not-takes.true)

pub append-requires : goal.append-requires
append-requires c = (sound_slot _ _ (sound (goal.at.append-requires c).Else-not-is_sound), is_slip_lem (goal.at.append-requires c).Else-not-check_slip, sym c.takes.ensures ∙ c.if-not-takes.false)

pub returns : goal.returns
returns c =
    let r = appends_is _ _ _ _ (sound (goal.at.returns c).Else-not-is_sound) (is_slip_lem (goal.at.returns c).Else-not-check_slip) (sym c.takes.ensures ∙ c.if-not-takes.false) in
    (r.0, c.append.ensures ∙ r.1)
