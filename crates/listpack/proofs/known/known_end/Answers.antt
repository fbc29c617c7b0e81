use mathlib.Core.Path.{◌≡◌, refl, sym, ◌∙◌}
use Prim.Native.Nat.{◌+◌, ◌-◌}
use native.Mathlib.Omega.{arith}
use Rattle.octets.specs.Bytes.{Bytes}
use Rattle.listpack.proofs.There.{size_there, first_element, other_elements, end_none}
use Rattle.listpack.proofs.known.known_end.Goals as goal
use Rattle.listpack.proofs.known.known_end.Goals.{After-shared_slice_known-1}

bytes : (c : After-shared_slice_known-1) → Bytes c.args.s.now
bytes c = record { byte = λ j. (c.type_inv.s j).fits }

pub loop-k-init : goal.loop-k-init
loop-k-init c = let e : c.args.n - 0 ≡ c.args.n = omega arith in (rw e c.requires.there, rw e refl)

pub known_size-to-requires : goal.known_size-to-requires
known_size-to-requires c = first_element _ _ _ (omega arith) c.loop-k.invariant.0

pub overflow_add-to : goal.overflow_add-to
overflow_add-to c = omega (arith, c.known_size-to.ensures, size_there _ _ (bytes (goal.at.overflow_add-to c).After-shared_slice_known-1) (first_element _ _ _ (omega arith) c.loop-k.invariant.0))

pub loop-k-preserved : goal.loop-k-preserved
loop-k-preserved c =
    let l = c.loop-k in
    let o = other_elements _ _ _ _ (omega arith) l.invariant.0 c.known_size-to.ensures in
    let e : c.args.n - l.k - 1 ≡ c.args.n - (l.k + 1) = omega arith in
    (rw (← e) o.0, rw (← e) (l.invariant.1 ∙ o.1))

pub returns : goal.returns
returns c = sym (c.loop-k.invariant.1 ∙ end_none _ _ _ (omega arith))
