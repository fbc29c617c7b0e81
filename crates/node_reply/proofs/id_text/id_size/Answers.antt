-- Assumes nothing.
use native.Mathlib.Omega.{arith}
use Rattle.decimal.proofs.Laws.{length_natural}
use Rattle.node_reply.proofs.Bulks.{length_id}
use Rattle.node_reply.proofs.id_text.id_size.Goals as goal

pub overflow_add-result : goal.overflow_add-result
overflow_add-result c = omega (arith, c.natural_size.ensures, length_natural c.args.id.ms)

pub overflow_add-result-2 : goal.overflow_add-result-2
overflow_add-result-2 c = omega (arith, c.natural_size.ensures, c.natural_size-2.ensures, length_natural c.args.id.ms, length_natural c.args.id.seq)

pub returns : goal.returns
returns c =
    let i = c.args.id in
    (omega (arith, c.natural_size.ensures, c.natural_size-2.ensures, length_id i), omega (arith, c.natural_size.ensures, c.natural_size-2.ensures, length_natural i.ms, length_natural i.seq))
