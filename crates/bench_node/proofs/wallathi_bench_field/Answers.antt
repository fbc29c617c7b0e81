-- Assumes nothing.
use mathlib.Core.Path.{◌≡◌, sym, ◌∙◌, subst}
use mathlib.Core.Bool.{true}
use native.Mathlib.Omega.{arith}
use Rattle.id.specs.Id.{id_of}
use Rattle.bench_node.specs.Node.{is_sound}
use Rattle.bench_node.proofs.Slots.{sound_slot}
use Rattle.octets.specs.Bytes.{Bytes}
use Rattle.node.specs.Step.{value_of}
use Rattle.node_read.specs.Pairs.{pairs_from}
use Rattle.node_read.specs.Held.{HeldAt, IsHeld, FieldAt, IsField}
use Rattle.node_read.proofs.Laws.{held_is, field_is}
use Rattle.bench_node.proofs.Written.{fields_not, field_missing, field_absent, field_short, field_written}
use Rattle.bench_node.proofs.wallathi_bench_field.Goals as goal
use Rattle.bench_node.proofs.wallathi_bench_field.Goals.{After-shared_slice_known-1, Else-not-is_sound, In-Some-find_field, In-Some}

bytes : (c : After-shared_slice_known-1) → Bytes c.args.slot.now
bytes c = record { byte = λ j. (c.type_inv.slot j).fits }

sound : (c : Else-not-is_sound) → let a = c.args in is_sound (id_of a.key_ms a.key_seq) a.slot.now ≡ true
sound c = sym c.is_sound.ensures ∙ c.if-not-is_sound.false

held : (c : In-Some) → let a = c.args in HeldAt (id_of a.key_ms a.key_seq) (id_of a.ms a.seq) a.slot.now c.in-Some.q
held c = let the_bytes : Bytes c.args.slot.now = record { byte = λ j. (c.type_inv.slot j).fits } in let the_sound : let a = c.args in is_sound (id_of a.key_ms a.key_seq) a.slot.now ≡ true = sym c.is_sound.ensures ∙ c.if-not-is_sound.false in subst (IsHeld _ _ _) (sym c.find_pairs.ensures ∙ c.in-Some.is) (held_is _ _ _ (the_bytes) (sound_slot _ _ (the_sound)))

value : (c : In-Some-find_field) → let a = c.args in
    FieldAt a.slot.now (value_of a.name.now (pairs_from a.slot.now c.in-Some.q)) c.in-Some-find_field.v.at c.in-Some-find_field.v.len
value c = let the_held : let a = c.args in HeldAt (id_of a.key_ms a.key_seq) (id_of a.ms a.seq) a.slot.now c.in-Some.q = let the_bytes : Bytes c.args.slot.now = record { byte = λ j. (c.type_inv.slot j).fits } in let the_sound : let a = c.args in is_sound (id_of a.key_ms a.key_seq) a.slot.now ≡ true = sym c.is_sound.ensures ∙ c.if-not-is_sound.false in subst (IsHeld _ _ _) (sym c.find_pairs.ensures ∙ c.in-Some.is) (held_is _ _ _ (the_bytes) (sound_slot _ _ (the_sound))) in subst (IsField _ _) (sym c.find_field.ensures ∙ c.in-Some-find_field.is) (field_is _ _ _ (the_held).holds)

pub returns-then-not-is_sound : goal.returns-then-not-is_sound
returns-then-not-is_sound c = fields_not _ _ _ _ _ (sym c.is_sound.ensures ∙ c.if-not-is_sound.true)

pub find_pairs-requires : goal.find_pairs-requires
find_pairs-requires c = sound_slot _ _ (sound (c))

pub returns-in_default : goal.returns-in_default
returns-in_default c = field_missing _ _ _ _ _ (sound (goal.at.returns-in_default c).Else-not-is_sound) (subst (IsHeld _ _ _) (sym c.find_pairs.ensures ∙ c.in_default.is) (held_is _ _ _ (bytes (goal.at.returns-in_default c).After-shared_slice_known-1) (sound_slot _ _ (sound (goal.at.returns-in_default c).Else-not-is_sound))))

pub find_field-requires : goal.find_field-requires
find_field-requires c = (held (goal.at.find_field-requires c).In-Some).holds

pub returns-in_default-find_field : goal.returns-in_default-find_field
returns-in_default-find_field c = field_absent _ _ _ _ _ (sound (goal.at.returns-in_default-find_field c).Else-not-is_sound) _ (held (goal.at.returns-in_default-find_field c).In-Some) (subst (IsField _ _) (sym c.find_field.ensures ∙ c.in_default-find_field.is) (field_is _ _ _ (held (goal.at.returns-in_default-find_field c).In-Some).holds))

pub returns-then-out-v : goal.returns-then-out-v
returns-then-out-v c = field_short _ _ _ _ _ (sound (goal.at.returns-then-out-v c).Else-not-is_sound) _ (held (goal.at.returns-then-out-v c).In-Some) _ _ (value (goal.at.returns-then-out-v c).In-Some-find_field) c.if-out-v.true

pub write_value-requires : goal.write_value-requires
write_value-requires c = ((value (goal.at.write_value-requires c).In-Some-find_field).there, omega (arith, (value (goal.at.write_value-requires c).In-Some-find_field).length_is, c.if-out-v.false))

pub returns : goal.returns
returns c = field_written _ _ _ _ _ (sound (goal.at.returns c).Else-not-is_sound) _ (held (goal.at.returns c).In-Some) _ _ (value (goal.at.returns c).In-Some-find_field) c.if-out-v.false _ c.write_value.ensures
