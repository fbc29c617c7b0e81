-- `put_sound` meets its contract. Assumes nothing.
use Rattle.keys.specs.Operation.{put}
use Rattle.keys.specs.Table.{tabled}
use Rattle.index_bytes.proofs.Steps.{sound_root, sound_is, sound_listed, changes_some}
use Rattle.index_bytes.proofs.change.put_sound.Goals as goal

pub table_of-requires : goal.table_of-requires
table_of-requires c = let x = c.args in (c.requires.0, sound_root x.bytes.now c.requires.1)

pub unwrap-t-requires : goal.unwrap-t-requires
unwrap-t-requires c = let x = c.args in sound_is x.bytes.now c.requires.1 c.table_of.result c.table_of.ensures

pub put_in-requires : goal.put_in-requires
put_in-requires c = let x = c.args in (c.requires.0, sound_listed x.bytes.now c.requires.1 c.table_of.result c.table_of.ensures c.unwrap-t.result c.unwrap-t.ensures)

pub returns : goal.returns
returns c = let x = c.args in changes_some (put x.key.now x.value) x.bytes.now (tabled c.unwrap-t.result) _ _ (sound_listed x.bytes.now c.requires.1 c.table_of.result c.table_of.ensures c.unwrap-t.result c.unwrap-t.ensures) c.put_in.ensures
