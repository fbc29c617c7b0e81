-- `remove_sound` meets its contract. Assumes nothing.
use Rattle.keys.specs.Operation.{remove}
use Rattle.keys.specs.Table.{tabled}
use Rattle.index_bytes.proofs.Steps.{sound_root, sound_is, sound_listed, changes_some}
use Rattle.index_bytes.proofs.change.remove_sound.Goals as goal

pub table_of-requires : goal.table_of-requires
table_of-requires c = let x = c.args in (c.requires.0, sound_root x.bytes.now c.requires.1)

pub unwrap-t-requires : goal.unwrap-t-requires
unwrap-t-requires c = let x = c.args in sound_is x.bytes.now c.requires.1 c.table_of.result c.table_of.ensures

pub remove_in-requires : goal.remove_in-requires
remove_in-requires c = let x = c.args in (c.requires.0, sound_listed x.bytes.now c.requires.1 c.table_of.result c.table_of.ensures c.unwrap-t.result c.unwrap-t.ensures)

pub returns : goal.returns
returns c = let x = c.args in changes_some (remove x.key.now) x.bytes.now (tabled c.unwrap-t.result) _ _ (sound_listed x.bytes.now c.requires.1 c.table_of.result c.table_of.ensures c.unwrap-t.result c.unwrap-t.ensures) c.remove_in.ensures
