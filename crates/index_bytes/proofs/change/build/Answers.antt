-- `build` meets its contract. Assumes nothing.
use Rattle.keys.specs.Table.{tabled}
use Rattle.radix.proofs.Laws.{record_back}
use Rattle.index_bytes.proofs.Settling.{written}
use Rattle.index_bytes.proofs.change.build.Goals as goal

pub returns : goal.returns
returns c =
    let w = c.build in
    written (tabled c.args.t) w.new.out (record_back (tabled c.args.t) c.requires.0) w.ensures
