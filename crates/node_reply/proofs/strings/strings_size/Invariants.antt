-- The invariant: what is counted, and what is left. Assumes nothing.
use mathlib.Core.Path.{◌≡◌}
use Prim.Native.Nat.{◌+◌, ◌-◌, ◌*◌, ◌≤◌}
use Rattle.listpack.specs.Known.{ElementsAt}
use Rattle.node_reply.specs.Sizes.{strings_size}
use Rattle.node_reply.proofs.strings.strings_size.Given as goal

abbrev pub invariant-loop : goal.invariant-loop
invariant-loop l = (ElementsAt (l.n - l.counter) l.s l.to) × (l.size + strings_size (l.n - l.counter) l.s l.to ≡ strings_size l.n l.s l.at) × (l.size + 4120 * (l.n - l.counter) ≤ 4120 * l.n)
