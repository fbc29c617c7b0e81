use Rattle.std.proofs.Common.{sym, ◌∙◌, arith}
use Rattle.octets.specs.Bytes.{Bytes}
use Rattle.listpack.proofs.Laws.{size_there}
use Rattle.node_sample.proofs.Names.{finding_start, finding_end, finding_there, finding_found, finding_turn}
use Rattle.node_sample.proofs.name.find_name.Goals as goal
use Rattle.node_sample.proofs.name.find_name.Goals.{After-shared_slice_known-1}

bytes : (c : After-shared_slice_known-1) → Bytes c.args.s.now
bytes c = record { byte = λ j. (c.type_inv.s j).fits }

pub loop-k-init : goal.loop-k-init
loop-k-init c = finding_start _ _ _ _ c.requires

pub known_is-requires : goal.known_is-requires
known_is-requires c = finding_there c.loop-k.invariant (omega arith)

pub returns-then-known_is : goal.returns-then-known_is
returns-then-known_is c = finding_found c.loop-k.invariant (omega arith) (sym c.known_is.ensures ∙ c.if-known_is.true)

pub known_size-to-requires : goal.known_size-to-requires
known_size-to-requires c = finding_there c.loop-k.invariant (omega arith)

pub overflow_add-to : goal.overflow_add-to
overflow_add-to c = omega (arith, c.known_size-to.ensures, size_there _ _ (bytes (goal.at.overflow_add-to c).After-shared_slice_known-1) (finding_there c.loop-k.invariant (omega arith)))

pub loop-k-preserved : goal.loop-k-preserved
loop-k-preserved c = finding_turn c.loop-k.invariant (omega arith) _ c.known_size-to.ensures (sym c.known_is.ensures ∙ c.if-known_is.false)

pub returns : goal.returns
returns c = omega (arith, finding_end c.loop-k.invariant (omega arith))
