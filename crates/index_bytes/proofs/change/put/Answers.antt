-- `put` meets its contract. Assumes nothing.
use Rattle.keys.specs.Operation.{put}
use Rattle.keys.specs.Table.{tabled}
use Rattle.index_bytes.proofs.Steps.{changes_2, some_listed, changes_some}
use Rattle.index_bytes.proofs.change.put.Goals as goal

pub returns-in_default : goal.returns-in_default
returns-in_default c = let x = c.args in changes_2 (put x.key.now x.value) x.bytes.now c.list.result c.list.ensures c.in_default.is

pub put_in-requires : goal.put_in-requires
put_in-requires c = let x = c.args in (c.requires, some_listed (put x.key.now x.value) x.bytes.now c.list.result c.list.ensures c.in-Some.t c.in-Some.is)

pub returns : goal.returns
returns c = let x = c.args in changes_some (put x.key.now x.value) x.bytes.now (tabled c.in-Some.t) _ _ (some_listed (put x.key.now x.value) x.bytes.now c.list.result c.list.ensures c.in-Some.t c.in-Some.is) c.put_in.ensures
