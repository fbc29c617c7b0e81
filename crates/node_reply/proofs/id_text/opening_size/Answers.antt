-- Assumes nothing.
use native.Mathlib.Omega.{arith}
use Rattle.resp.specs.Reply.{id_text}
use Rattle.node_reply.proofs.Bulks.{length_opening}
use Rattle.node_reply.proofs.id_text.opening_size.Goals as goal

pub returns : goal.returns
returns c =
    let i = c.args.id in
    (omega (arith, c.head_size.ensures.0 42, c.bulk_size.ensures.0 (id_text i) c.id_size.ensures.0, c.head_size-2.ensures.0 42, length_opening i c.args.pairs), omega (arith, c.head_size.ensures.1, c.id_size.ensures.1, c.bulk_size.ensures.1, c.head_size-2.ensures.1))
