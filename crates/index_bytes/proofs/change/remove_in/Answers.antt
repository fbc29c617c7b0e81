-- `remove_in` meets its contract. Assumes nothing.
use mathlib.Core.Path.{sym, ap, ◌∙◌}
use native.Mathlib.Omega.{arith}
use Rattle.keys.specs.Entries.{is_map}
use Rattle.keys.specs.Table.{columns, tabled}
use Rattle.keys.proofs.Laws.{map_length, map_rising, map_without, rank_held, length_rows, is_held, gone_rows}
use Rattle.index_bytes.proofs.Laws.{held_map as bytes_map}
use Rattle.index_bytes.proofs.Steps.{remove_3, remove_none, remove_one}
use Rattle.index_bytes.proofs.change.remove_in.Goals as goal

pub returns-then-not-is_key : goal.returns-then-not-is_key
returns-then-not-is_key c = let x = c.args in remove_3 x.bytes.now (tabled x.t) c.requires.1 x.key.now (sym c.is_key.ensures ∙ c.if-not-is_key.true)

pub rank_of-i-requires : goal.rank_of-i-requires
rank_of-i-requires c = let x = c.args in omega (arith, map_length (tabled x.t) (bytes_map x.bytes.now (tabled x.t) c.requires.1), length_rows (columns x.t.len x.t.val x.t.key) 0 x.t.n)

pub is_row-requires : goal.is_row-requires
is_row-requires c = let x = c.args in omega (arith, map_length (tabled x.t) (bytes_map x.bytes.now (tabled x.t) c.requires.1), length_rows (columns x.t.len x.t.val x.t.key) 0 x.t.n)

pub without_row-requires : goal.without_row-requires
without_row-requires c = let x = c.args in omega (arith, map_length (tabled x.t) (bytes_map x.bytes.now (tabled x.t) c.requires.1), length_rows (columns x.t.len x.t.val x.t.key) 0 x.t.n, c.rank_of-i.ensures, rank_held x.key.now (tabled x.t) (map_rising (tabled x.t) (bytes_map x.bytes.now (tabled x.t) c.requires.1)) (sym (c.is_row.ensures ∙ is_held (columns x.t.len x.t.val x.t.key) x.t.n x.key.now c.rank_of-i.result (map_rising (tabled x.t) (bytes_map x.bytes.now (tabled x.t) c.requires.1)) c.rank_of-i.ensures) ∙ c.if-is_row.true))

pub build-requires : goal.build-requires
build-requires c = let x = c.args in let h = sym (c.is_row.ensures ∙ is_held (columns x.t.len x.t.val x.t.key) x.t.n x.key.now c.rank_of-i.result (map_rising (tabled x.t) (bytes_map x.bytes.now (tabled x.t) c.requires.1)) c.rank_of-i.ensures) ∙ c.if-is_row.true in (ap is_map (c.without_row.ensures.0 ∙ gone_rows (tabled x.t) (bytes_map x.bytes.now (tabled x.t) c.requires.1) x.key.now (sym c.is_key.ensures ∙ c.if-not-is_key.false) c.rank_of-i.result c.rank_of-i.ensures h) ∙ map_without x.key.now (tabled x.t) (bytes_map x.bytes.now (tabled x.t) c.requires.1), c.requires.0)

pub returns-then-is_row : goal.returns-then-is_row
returns-then-is_row c = let x = c.args in let h = sym (c.is_row.ensures ∙ is_held (columns x.t.len x.t.val x.t.key) x.t.n x.key.now c.rank_of-i.result (map_rising (tabled x.t) (bytes_map x.bytes.now (tabled x.t) c.requires.1)) c.rank_of-i.ensures) ∙ c.if-is_row.true in remove_one x.bytes.now (tabled x.t) c.requires.1 x.key.now (sym c.is_key.ensures ∙ c.if-not-is_key.false) _ (tabled c.without_row.result) h (c.without_row.ensures.0 ∙ gone_rows (tabled x.t) (bytes_map x.bytes.now (tabled x.t) c.requires.1) x.key.now (sym c.is_key.ensures ∙ c.if-not-is_key.false) c.rank_of-i.result c.rank_of-i.ensures h) c.build.ensures

pub returns : goal.returns
returns c = let x = c.args in remove_none x.bytes.now (tabled x.t) c.requires.1 x.key.now (sym c.is_key.ensures ∙ c.if-not-is_key.false) (sym (c.is_row.ensures ∙ is_held (columns x.t.len x.t.val x.t.key) x.t.n x.key.now c.rank_of-i.result (map_rising (tabled x.t) (bytes_map x.bytes.now (tabled x.t) c.requires.1)) c.rank_of-i.ensures) ∙ c.if-is_row.false)
