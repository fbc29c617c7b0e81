-- `list` meets its contract. Assumes nothing.
use mathlib.Core.List.{List}
use Rattle.std.proofs.Common.{Option}
use mathlib.Core.Path.{sym, ◌∙◌, subst}
use Rattle.keys.specs.Entries.{Entry}
use Rattle.keys.specs.Listing.{Lists}
use Rattle.radix_bytes.specs.Bytes.{record_from}
use Rattle.radix_bytes.proofs.Laws.{label_size}
use Rattle.radix_judge.proofs.Laws.{not_sound, sound_gathered}
use Rattle.radix_rows.proofs.Labelled.{root_in}
use Rattle.radix_rows.proofs.list.Goals as goal

pub returns-then-not-is_sound : goal.returns-then-not-is_sound
returns-then-not-is_sound c = let s = c.args.s.now in sym (not_sound (record_from s) (label_size s c.requires) (sym c.is_sound.ensures ∙ c.if-not-is_sound.true))

pub table_of-requires : goal.table_of-requires
table_of-requires c = let s = c.args.s.now in (c.requires, root_in s c.requires (sym c.is_sound.ensures ∙ c.if-not-is_sound.false))

pub returns : goal.returns
returns c = let s = c.args.s.now in subst (λ (o : Option (List Entry)). Lists o c.table_of.result) (sound_gathered (record_from s) (label_size s c.requires) (sym c.is_sound.ensures ∙ c.if-not-is_sound.false)) c.table_of.ensures
