-- Assumes nothing.
use mathlib.Core.Path.{ap}
use native.Mathlib.Omega.{arith}
use Prim.Native.Nat.{ℕ}
use lib.ListN.{length}
use Rattle.resp.specs.Reply.{head}
use Rattle.node_reply.proofs.Bulks.{length_bulk}
use Rattle.node_reply.proofs.strings.bulk_size.Goals as goal

pub returns : goal.returns
returns c = (λ x q. omega (arith, c.head_size.ensures.0 36, length_bulk x, ap (λ (k : ℕ). length (head 36 k)) q), omega (arith, c.head_size.ensures.1))
