-- `put_in` meets its contract. Assumes nothing.
use mathlib.Core.Path.{sym, ap, ◌∙◌}
use Prim.Native.Nat.{◌^◌, ◌<◌}
use native.Mathlib.Omega.{arith}
use lib.ListN.{length}
use Rattle.keys.specs.Entries.{is_map}
use Rattle.keys.specs.Table.{columns, tabled}
use Rattle.keys.proofs.Laws.{map_length, map_rising, key_short, rank_most, rank_held, length_rows, is_held, held_rows, new_rows, new_map, held_map}
use Rattle.index_bytes.proofs.Laws.{held_map as bytes_map}
use Rattle.index_bytes.proofs.Steps.{put_3, put_18, put_held, put_new}
use Rattle.index_bytes.proofs.change.put_in.Goals as goal

pub returns-then-not-is_key : goal.returns-then-not-is_key
returns-then-not-is_key c = let x = c.args in put_3 x.bytes.now (tabled x.t) c.requires.1 x.key.now x.value (sym c.is_key.ensures ∙ c.if-not-is_key.true)

pub rank_of-i-requires : goal.rank_of-i-requires
rank_of-i-requires c = let x = c.args in omega (arith, map_length (tabled x.t) (bytes_map x.bytes.now (tabled x.t) c.requires.1), length_rows (columns x.t.len x.t.val x.t.key) 0 x.t.n)

pub is_row-requires : goal.is_row-requires
is_row-requires c = let x = c.args in omega (arith, map_length (tabled x.t) (bytes_map x.bytes.now (tabled x.t) c.requires.1), length_rows (columns x.t.len x.t.val x.t.key) 0 x.t.n)

pub overflow_add-i : goal.overflow_add-i
overflow_add-i c = let x = c.args in omega (arith, map_length (tabled x.t) (bytes_map x.bytes.now (tabled x.t) c.requires.1), length_rows (columns x.t.len x.t.val x.t.key) 0 x.t.n, c.rank_of-i.ensures, rank_most x.key.now (tabled x.t))

pub with_row-requires : goal.with_row-requires
with_row-requires c = let x = c.args in omega (arith, map_length (tabled x.t) (bytes_map x.bytes.now (tabled x.t) c.requires.1), length_rows (columns x.t.len x.t.val x.t.key) 0 x.t.n, key_short x.key.now (sym c.is_key.ensures ∙ c.if-not-is_key.false), c.rank_of-i.ensures, rank_held x.key.now (tabled x.t) (map_rising (tabled x.t) (bytes_map x.bytes.now (tabled x.t) c.requires.1)) (sym (c.is_row.ensures ∙ is_held (columns x.t.len x.t.val x.t.key) x.t.n x.key.now c.rank_of-i.result (map_rising (tabled x.t) (bytes_map x.bytes.now (tabled x.t) c.requires.1)) c.rank_of-i.ensures) ∙ c.if-is_row.true))

pub build-requires : goal.build-requires
build-requires c = let x = c.args in let h = sym (c.is_row.ensures ∙ is_held (columns x.t.len x.t.val x.t.key) x.t.n x.key.now c.rank_of-i.result (map_rising (tabled x.t) (bytes_map x.bytes.now (tabled x.t) c.requires.1)) c.rank_of-i.ensures) ∙ c.if-is_row.true in (ap is_map (c.with_row.ensures.0 ∙ held_rows (tabled x.t) (bytes_map x.bytes.now (tabled x.t) c.requires.1) x.key.now (sym c.is_key.ensures ∙ c.if-not-is_key.false) c.rank_of-i.result c.rank_of-i.ensures x.value (let f : x.value < 2 ^ 32 = omega arith in f) h) ∙ held_map (tabled x.t) (bytes_map x.bytes.now (tabled x.t) c.requires.1) x.key.now (sym c.is_key.ensures ∙ c.if-not-is_key.false) c.rank_of-i.result c.rank_of-i.ensures x.value (let f : x.value < 2 ^ 32 = omega arith in f) h, c.requires.0)

pub returns-then-is_row : goal.returns-then-is_row
returns-then-is_row c = let x = c.args in let h = sym (c.is_row.ensures ∙ is_held (columns x.t.len x.t.val x.t.key) x.t.n x.key.now c.rank_of-i.result (map_rising (tabled x.t) (bytes_map x.bytes.now (tabled x.t) c.requires.1)) c.rank_of-i.ensures) ∙ c.if-is_row.true in put_held x.bytes.now (tabled x.t) c.requires.1 x.key.now (sym c.is_key.ensures ∙ c.if-not-is_key.false) x.value _ (tabled c.with_row.result) (c.with_row.ensures.0 ∙ held_rows (tabled x.t) (bytes_map x.bytes.now (tabled x.t) c.requires.1) x.key.now (sym c.is_key.ensures ∙ c.if-not-is_key.false) c.rank_of-i.result c.rank_of-i.ensures x.value (let f : x.value < 2 ^ 32 = omega arith in f) h) c.build.ensures h

pub returns-then-n-ge64 : goal.returns-then-n-ge64
returns-then-n-ge64 c = let x = c.args in put_18 x.bytes.now (tabled x.t) c.requires.1 x.key.now (sym c.is_key.ensures ∙ c.if-not-is_key.false) x.value (sym (c.is_row.ensures ∙ is_held (columns x.t.len x.t.val x.t.key) x.t.n x.key.now c.rank_of-i.result (map_rising (tabled x.t) (bytes_map x.bytes.now (tabled x.t) c.requires.1)) c.rank_of-i.ensures) ∙ c.if-is_row.false) (omega (arith, length_rows (columns x.t.len x.t.val x.t.key) 0 x.t.n, c.if-n-ge64.true))

pub with_row-requires-2 : goal.with_row-requires-2
with_row-requires-2 c = let x = c.args in omega (arith, map_length (tabled x.t) (bytes_map x.bytes.now (tabled x.t) c.requires.1), length_rows (columns x.t.len x.t.val x.t.key) 0 x.t.n, key_short x.key.now (sym c.is_key.ensures ∙ c.if-not-is_key.false), c.rank_of-i.ensures, rank_most x.key.now (tabled x.t), c.if-n-ge64.false)

pub build-requires-2 : goal.build-requires-2
build-requires-2 c = let x = c.args in let h = sym (c.is_row.ensures ∙ is_held (columns x.t.len x.t.val x.t.key) x.t.n x.key.now c.rank_of-i.result (map_rising (tabled x.t) (bytes_map x.bytes.now (tabled x.t) c.requires.1)) c.rank_of-i.ensures) ∙ c.if-is_row.false in let l : length (tabled x.t) < 64 = omega (arith, length_rows (columns x.t.len x.t.val x.t.key) 0 x.t.n, c.if-n-ge64.false) in (ap is_map (c.with_row-2.ensures.0 ∙ new_rows (tabled x.t) (bytes_map x.bytes.now (tabled x.t) c.requires.1) x.key.now (sym c.is_key.ensures ∙ c.if-not-is_key.false) c.rank_of-i.result c.rank_of-i.ensures x.value (let f : x.value < 2 ^ 32 = omega arith in f) h) ∙ new_map (tabled x.t) (bytes_map x.bytes.now (tabled x.t) c.requires.1) x.key.now (sym c.is_key.ensures ∙ c.if-not-is_key.false) c.rank_of-i.result c.rank_of-i.ensures x.value (let f : x.value < 2 ^ 32 = omega arith in f) h l, c.requires.0)

pub returns : goal.returns
returns c = let x = c.args in let h = sym (c.is_row.ensures ∙ is_held (columns x.t.len x.t.val x.t.key) x.t.n x.key.now c.rank_of-i.result (map_rising (tabled x.t) (bytes_map x.bytes.now (tabled x.t) c.requires.1)) c.rank_of-i.ensures) ∙ c.if-is_row.false in let l : length (tabled x.t) < 64 = omega (arith, length_rows (columns x.t.len x.t.val x.t.key) 0 x.t.n, c.if-n-ge64.false) in put_new x.bytes.now (tabled x.t) c.requires.1 x.key.now (sym c.is_key.ensures ∙ c.if-not-is_key.false) x.value _ (tabled c.with_row-2.result) (c.with_row-2.ensures.0 ∙ new_rows (tabled x.t) (bytes_map x.bytes.now (tabled x.t) c.requires.1) x.key.now (sym c.is_key.ensures ∙ c.if-not-is_key.false) c.rank_of-i.result c.rank_of-i.ensures x.value (let f : x.value < 2 ^ 32 = omega arith in f) h) c.build-2.ensures h l
