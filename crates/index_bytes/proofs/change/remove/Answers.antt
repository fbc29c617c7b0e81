-- `remove` meets its contract. Assumes nothing.
use Rattle.keys.specs.Operation.{remove}
use Rattle.keys.specs.Table.{tabled}
use Rattle.index_bytes.proofs.Steps.{changes_2, some_listed, changes_some}
use Rattle.index_bytes.proofs.change.remove.Goals as goal

pub returns-in_default : goal.returns-in_default
returns-in_default c = let x = c.args in changes_2 (remove x.key.now) x.bytes.now c.list.result c.list.ensures c.in_default.is

pub remove_in-requires : goal.remove_in-requires
remove_in-requires c = let x = c.args in (c.requires, some_listed (remove x.key.now) x.bytes.now c.list.result c.list.ensures c.in-Some.t c.in-Some.is)

pub returns : goal.returns
returns c = let x = c.args in changes_some (remove x.key.now) x.bytes.now (tabled c.in-Some.t) _ _ (some_listed (remove x.key.now) x.bytes.now c.list.result c.list.ensures c.in-Some.t c.in-Some.is) c.remove_in.ensures
