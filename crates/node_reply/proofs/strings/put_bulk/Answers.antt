-- Assumes nothing.
use mathlib.Core.Path.{ap}
use mathlib.Core.List.{List}
use native.Mathlib.Omega.{arith}
use Prim.Native.Nat.{ℕ}
use lib.ListN.{length}
use Rattle.octets.specs.Bytes.{Bytes}
use Rattle.listpack.proofs.Laws.{size_there, after_is}
use Rattle.resp.specs.Reply.{bulk}
use Rattle.node_reply.proofs.Written.{wrote, wrote_as}
use Rattle.node_reply.proofs.Known.{number_is, string_is}
use Rattle.node_reply.proofs.strings.put_bulk.Goals as goal
use Rattle.node_reply.proofs.strings.put_bulk.Goals.{After-shared_slice_known-1}

bytes : (c : After-shared_slice_known-1) → Bytes c.args.s.now
bytes c = record { byte = λ j. (c.type_inv.s j).fits }

pub overflow_add-next : goal.overflow_add-next
overflow_add-next c = omega (arith, size_there _ _ (bytes (goal.at.overflow_add-next c).After-shared_slice_known-1) c.requires.0, c.known_size.ensures)

pub put_number-end-requires : goal.put_number-end-requires
put_number-end-requires c = omega (arith, c.requires.1, ap (λ (l : List ℕ). length (bulk l)) (number_is _ _ (bytes (goal.at.put_number-end-requires c).After-shared_slice_known-1) c.requires.0 _ c.known_text-t.ensures c.if-t-eq0.true _ c.known_integer.ensures))

pub returns-then-t-eq0 : goal.returns-then-t-eq0
returns-then-t-eq0 c =
    let w = wrote_as (wrote c.put_number-end.ensures) (ap bulk (number_is _ _ (bytes (goal.at.returns-then-t-eq0 c).After-shared_slice_known-1) c.requires.0 _ c.known_text-t.ensures c.if-t-eq0.true _ c.known_integer.ensures)) in
    (after_is _ _ _ c.known_size.ensures, w.next_is, w.bytes)

pub overflow_add-from : goal.overflow_add-from
overflow_add-from c = omega (arith, (string_is _ _ (bytes (goal.at.overflow_add-from c).After-shared_slice_known-1) c.requires.0 _ c.known_text-t.ensures c.if-t-eq0.false _ c.known_start.ensures).0)

pub put_text-end-requires : goal.put_text-end-requires
put_text-end-requires c =
    let x = string_is _ _ (bytes (goal.at.put_text-end-requires c).After-shared_slice_known-1) c.requires.0 _ c.known_text-t.ensures c.if-t-eq0.false _ c.known_start.ensures in
    (x.0, omega (arith, c.requires.1, ap (λ (l : List ℕ). length (bulk l)) x.1))

pub returns : goal.returns
returns c =
    let w = wrote_as (wrote c.put_text-end.ensures) (ap bulk (string_is _ _ (bytes (goal.at.returns c).After-shared_slice_known-1) c.requires.0 _ c.known_text-t.ensures c.if-t-eq0.false _ c.known_start.ensures).1) in
    (after_is _ _ _ c.known_size.ensures, w.next_is, w.bytes)
